use Rattle.std.proofs.Common.{◌≡◌, ℕ, Bool, true, false, sym, ap, ◌∙◌, List, take, drop}
use Rattle.std.specs.List.{list_any, list_all}
use Rattle.std.specs.Prelude.{◌&&◌, ◌||◌}
use Rattle.std.proofs.lemmas.List.{take-append-drop}
use Rattle.std.proofs.lemmas.List.Folds.{list_any-append, list_all-append}

-- A list, and the block of its first elements.

module _ {X : Type 0} (p : X → Bool) where
  any_parts : (n : ℕ) (xs : List X) → list_any p xs ≡ (list_any p (take n xs) || list_any p (drop n xs))
  any_parts n xs = ap (list_any p) (sym (take-append-drop n xs)) ∙ list_any-append p (take n xs) (drop n xs)

  all_parts : (n : ℕ) (xs : List X) → list_all p xs ≡ (list_all p (take n xs) && list_all p (drop n xs))
  all_parts n xs = ap (list_all p) (sym (take-append-drop n xs)) ∙ list_all-append p (take n xs) (drop n xs)

  -- a block with an element that passes decides the answer
  pub block_has : (n : ℕ) (xs : List X) → list_any p (take n xs) ≡ true → list_any p xs ≡ true
  block_has n xs has = any_parts n xs ∙ ap (λ b. b || list_any p (drop n xs)) has

  -- otherwise the rest has to be tested
  pub block_has_none : (n : ℕ) (xs : List X) → list_any p (take n xs) ≡ false → list_any p xs ≡ list_any p (drop n xs)
  block_has_none n xs none = any_parts n xs ∙ ap (λ b. b || list_any p (drop n xs)) none

  -- a block with an element that does not pass decides the answer
  pub block_lacks : (n : ℕ) (xs : List X) → list_all p (take n xs) ≡ false → list_all p xs ≡ false
  block_lacks n xs lacks = all_parts n xs ∙ ap (λ b. b && list_all p (drop n xs)) lacks

  pub block_lacks_none : (n : ℕ) (xs : List X) → list_all p (take n xs) ≡ true → list_all p xs ≡ list_all p (drop n xs)
  block_lacks_none n xs each = all_parts n xs ∙ ap (λ b. b && list_all p (drop n xs)) each
