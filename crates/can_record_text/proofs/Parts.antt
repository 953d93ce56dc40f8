use Rattle.std.proofs.Common.{◌≡◌, ℕ, zero, suc, zero-add, ◌+◌, ◌-◌, length, subst, refl, arith, List, [], ◌∷◌, ◌++◌, take, drop, Option, sym, ap}
use Rattle.std.proofs.lemmas.List.{take_all, length-drop}
use Rattle.std.specs.Io.KnownBytes.{Appends}
use Rattle.std.proofs.KnownBytes.{Appends-trans}

-- The text that a writer has received, write after write.

abbrev none : List ℕ
none = []

nothing : (n : ℕ) → none ≡ take n none
nothing zero = refl
nothing (suc n) = refl

take-split : (k n : ℕ) (xs : List ℕ) → take (k + n) xs ≡ take k xs ++ take n (drop k xs)
take-split zero n xs = rw (zero-add n) refl
take-split (suc k) n [] = let e : suc k + n ≡ suc (k + n) = omega arith in rw e (nothing n)
take-split (suc k) n (x ∷ xs) = let e : suc k + n ≡ suc (k + n) = omega arith in rw e (ap (λ (l : List ℕ). x ∷ l) (take-split k n xs))

pub part_more : (a b c : Option (List ℕ)) (line : List ℕ) (k n : ℕ) → Appends a b (take k line) → Appends b c (take n (take (length line - k) (drop k line))) → Appends a c (take (k + n) line)
part_more a b c line k n h more =
    let whole : take (length line - k) (drop k line) ≡ drop k line = take_all (length line - k) (drop k line) (omega (arith, length-drop k line)) in
    subst (λ (x : List ℕ). Appends a c x) (sym (take-split k n line)) (Appends-trans a b c (take k line) (take n (drop k line)) h (subst (λ (x : List ℕ). Appends b c (take n x)) whole more))
