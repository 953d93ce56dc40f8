use Rattle.std.proofs.Common.{◌≡◌, ℕ, suc, ◌+◌, ◌^◌, ◌≤◌, ◌==◌, nat_lt, Bool, true, false, not, ◌&&◌, ◌||◌, List, [], ◌∷◌, ◌++◌, length, filter, bit_or, refl, ap, sym, ◌∙◌, arith, if◌then◌else◌, length-append, add-one}
use Rattle.std.specs.List.{list_any, range_with_len}
use Rattle.std.proofs.lemmas.List.Elements.{filter-append}
use Rattle.std.proofs.lemmas.List.Folds.{list_any-append}
use Rattle.can_frame.specs.Sets.{bits_where}
use Rattle.can_frame.specs.declared.iface.IfaceSet.{IfaceSet}
use Rattle.can_attempt.specs.Attempts.{is_among, set_of}
use Rattle.can_attempt.proofs.Places.{range_more, bits_where_below, is_among-filter, is_among-range}

-- What a survey has seen of the interfaces below a place. `h` says which interfaces can hear, `n` which are named, and
-- `a` which are not error passive.

-- the interfaces below i that can hear and pass the test
abbrev pub heard : (ℕ → Bool) → (ℕ → Bool) → ℕ → List ℕ
heard h n i = filter n (filter h (range_with_len 0 i))

pub record Seen (h n a : ℕ → Bool) (i hit unhurt : ℕ) (is_hit_active is_heard : Bool) : Type 0 where
  pub hit_bits : hit ≡ bits_where (λ k. h k && n k) i
  pub unhurt_bits : unhurt ≡ bits_where (λ k. h k && not (n k)) i
  pub active : is_hit_active ≡ list_any a (heard h n i)
  pub some : is_heard ≡ not (length (heard h (λ k. not (n k)) i) == 0)

-- a survey of no interfaces has seen nothing
pub seen_none : (h n a : ℕ → Bool) → Seen h n a 0 0 0 false false
seen_none h n a = record { hit_bits = refl; unhurt_bits = refl; active = refl; some = refl }

filter_one : (x : Bool) (n : ℕ → Bool) (i : ℕ) → filter n (if x then i ∷ [] else []) ≡ (if x && n i then i ∷ [] else [])
filter_one true n i = refl
filter_one false n i = refl

-- a survey of one more interface
heard_more : (h n : ℕ → Bool) (i : ℕ) → heard h n (suc i) ≡ heard h n i ++ (if h i && n i then i ∷ [] else [])
heard_more h n i =
    ap (λ ks. filter n (filter h ks)) (range_more 0 i i (omega arith))
    ∙ ap (filter n) (filter-append h (range_with_len 0 i) (i ∷ []))
    ∙ filter-append n (filter h (range_with_len 0 i)) (filter h (i ∷ []))
    ∙ ap (λ ks. heard h n i ++ ks) (filter_one (h i) n i)

any_one : (x : Bool) (a : ℕ → Bool) (i : ℕ) → list_any a (if x then i ∷ [] else []) ≡ (x && a i)
any_one true a i = grind arith
any_one false a i = refl

any_more : (h n a : ℕ → Bool) (i : ℕ) → list_any a (heard h n (suc i)) ≡ (list_any a (heard h n i) || (h i && n i && a i))
any_more h n a i =
    ap (list_any a) (heard_more h n i)
    ∙ list_any-append a (heard h n i) (if h i && n i then i ∷ [] else [])
    ∙ ap (λ b. list_any a (heard h n i) || b) (any_one (h i && n i) a i)

some_one : (x : Bool) (xs : List ℕ) (i : ℕ) → not (length (xs ++ (if x then i ∷ [] else [])) == 0) ≡ (not (length xs == 0) || x)
some_one true xs i = let longer : length (xs ++ i ∷ []) ≡ length xs + 1 = length-append xs (i ∷ []) in rw longer (grind arith)
some_one false xs i = let same : length (xs ++ []) ≡ length xs + 0 = length-append xs [] in grind (arith, same)

some_more : (h n : ℕ → Bool) (i : ℕ) → not (length (heard h n (suc i)) == 0) ≡ (not (length (heard h n i) == 0) || (h i && n i))
some_more h n i = ap (λ ks. not (length ks == 0)) (heard_more h n i) ∙ some_one (h i && n i) (heard h n i) i

pub seen_more : (h n a : ℕ → Bool) (i hit unhurt : ℕ) (x y : Bool) → Seen h n a i hit unhurt x y → (hit' unhurt' : ℕ) (x' y' : Bool) → hit' ≡ (if h i && n i then bit_or hit (2 ^ i) else hit)
    → unhurt' ≡ (if h i && not (n i) then bit_or unhurt (2 ^ i) else unhurt) → x' ≡ (x || (h i && n i && a i)) → y' ≡ (y || (h i && not (n i))) → Seen h n a (i + 1) hit' unhurt' x' y'
seen_more h n a i hit unhurt x y s hit' unhurt' x' y' eh eu ex ey =
    rw add-one (record {
      hit_bits = eh ∙ ap (λ b. if h i && n i then bit_or b (2 ^ i) else b) s.hit_bits;
      unhurt_bits = eu ∙ ap (λ b. if h i && not (n i) then bit_or b (2 ^ i) else b) s.unhurt_bits;
      active = ex ∙ ap (λ b. b || (h i && n i && a i)) s.active ∙ sym (any_more h n a i);
      some = ey ∙ ap (λ b. b || (h i && not (n i))) s.some ∙ sym (some_more h (λ k. not (n k)) i);
    })

-- membership among these interfaces
pub is_among-heard : (h n : ℕ → Bool) (c i : ℕ) → is_among i (heard h n c) ≡ ((h i && n i) && nat_lt i c)
is_among-heard h n c i = rw (is_among-filter n i (filter h (range_with_len 0 c)), is_among-filter h i (range_with_len 0 c), is_among-range i 0 c) (grind arith)

-- the set of the interfaces below c that can hear and pass the test
pub set_of-heard : (h n : ℕ → Bool) (c : ℕ) (set : IfaceSet) → c ≤ 16 → set.0 ≡ bits_where (λ k. h k && n k) c → set ≡ set_of (heard h n c)
set_of-heard h n c set within e = ap (λ (b : ℕ). record { 0 = b }) (e ∙ sym (bits_where_below (λ i. is_among i (heard h n c)) (λ k. h k && n k) c 16 within (is_among-heard h n c)))
