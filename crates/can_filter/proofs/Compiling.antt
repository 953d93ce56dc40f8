use Rattle.std.proofs.Common.{nat_cmp, All, IsTrue, true≢false, ◌≢◌, inl, inr, ◌≡◌, ◌==◌, ℕ, ◌<◌, ◌||◌, Bool, true, false, List, [], ◌∷◌, ◌++◌, length, get_or, replicate, Result, refl, sym, ap, ◌∙◌, bit_and, arith, zero, suc, eq-eqb, ne_eqb, is_ok, Ok, Err}
use Rattle.std.specs.List.{list_any}
use Rattle.std.specs.List.Sorted.{IsBinarySearchResult, IsNonDecreasing, IsPermutation}
use Rattle.std.proofs.lemmas.List.Folds.{list_any-append}
use Rattle.std.proofs.lemmas.List.Sorted.{searched, list_any-IsPermutation}
use Rattle.std.proofs.lemmas.Bool.{cases_order}
use Rattle.std.proofs.lemmas.Nat.{and_assoc}
use Rattle.can_filter.specs.Filters.{CanFilter, matches}
use Rattle.can_filter.specs.Lookups.{extended_mask, is_extended, is_marked, is_listed, is_matched, is_found}

-- Filters are grouped by how a word is looked up, and the groups match the same words.

or_false : (a : Bool) → (a || false) ≡ a
or_false true = refl
or_false false = refl

-- one more element at the end of a list
list_any-more : {X : Type 0} (p : X → Bool) (xs : List X) (x : X) → list_any p (xs ++ x ∷ []) ≡ (list_any p xs || p x)
list_any-more p xs x = list_any-append p xs (x ∷ []) ∙ ap (λ (b : Bool). list_any p xs || b) (or_false (p x))

in_second : (a b c d more : Bool) → (a || ((b || more) || (c || d))) ≡ ((a || (b || (c || d))) || more)
in_second true b c d more = refl
in_second false true c d more = refl
in_second false false true d true = refl
in_second false false true d false = refl
in_second false false false true true = refl
in_second false false false true false = refl
in_second false false false false true = refl
in_second false false false false false = refl

in_third : (a b c d more : Bool) → (a || (b || ((c || more) || d))) ≡ ((a || (b || (c || d))) || more)
in_third true b c d more = refl
in_third false true c d more = refl
in_third false false true d more = refl
in_third false false false true true = refl
in_third false false false true false = refl
in_third false false false false true = refl
in_third false false false false false = refl

in_fourth : (a b c d more : Bool) → (a || (b || (c || (d || more)))) ≡ ((a || (b || (c || d))) || more)
in_fourth true b c d more = refl
in_fourth false true c d more = refl
in_fourth false false true d more = refl
in_fourth false false false d more = refl

pub found-extended : (marks : List Bool) (ids : List ℕ) (masked inverted : List CanFilter) (word id : ℕ) (more : Bool) → more ≡ (bit_and word extended_mask == id) → is_found marks (ids ++ id ∷ []) masked inverted word ≡ (is_found marks ids masked inverted word || more)
found-extended marks ids masked inverted word id more is =
    ap (λ (b : Bool). is_marked marks word || (b || (is_matched masked word || is_matched inverted word))) (list_any-more (λ i. bit_and word extended_mask == i) ids id ∙ ap (λ (b : Bool). is_listed ids word || b) (sym is))
    ∙ in_second (is_marked marks word) (is_listed ids word) (is_matched masked word) (is_matched inverted word) more

pub found-masked : (marks : List Bool) (ids : List ℕ) (masked inverted : List CanFilter) (f : CanFilter) (word : ℕ) → is_found marks ids (masked ++ f ∷ []) inverted word ≡ (is_found marks ids masked inverted word || matches f word)
found-masked marks ids masked inverted f word =
    ap (λ (b : Bool). is_marked marks word || (is_listed ids word || (b || is_matched inverted word))) (list_any-more (λ g. matches g word) masked f)
    ∙ in_third (is_marked marks word) (is_listed ids word) (is_matched masked word) (is_matched inverted word) (matches f word)

pub found-inverted : (marks : List Bool) (ids : List ℕ) (masked inverted : List CanFilter) (f : CanFilter) (word : ℕ) → is_found marks ids masked (inverted ++ f ∷ []) word ≡ (is_found marks ids masked inverted word || matches f word)
found-inverted marks ids masked inverted f word =
    ap (λ (b : Bool). is_marked marks word || (is_listed ids word || (is_matched masked word || b))) (list_any-more (λ g. matches g word) inverted f)
    ∙ in_fourth (is_marked marks word) (is_listed ids word) (is_matched masked word) (is_matched inverted word) (matches f word)

unmarked : (n i : ℕ) → get_or (replicate n false) i false ≡ false
unmarked zero i = refl
unmarked (suc n) zero = refl
unmarked (suc n) (suc i) = unmarked n i

pub found-none : (marks : List Bool) (ids : List ℕ) (masked inverted : List CanFilter) → marks ≡ replicate 2048 false → ids ≡ [] → masked ≡ [] → inverted ≡ [] → (word : ℕ) → is_found marks ids masked inverted word ≡ false
found-none marks ids masked inverted e f g h word =
    ap (λ (m : List Bool). is_found m ids masked inverted word) e ∙ ap (λ (i : List ℕ). is_found (replicate 2048 false) i masked inverted word) f
    ∙ ap (λ (l : List CanFilter). is_found (replicate 2048 false) [] l inverted word) g ∙ ap (λ (l : List CanFilter). is_found (replicate 2048 false) [] [] l word) h
    ∙ ap (λ (b : Bool). b || false) (unmarked 2048 (bit_and word 3221227519))

-- after sorting, the list has the same ids
pub found-sorted : (marks : List Bool) (old new : List ℕ) (masked inverted : List CanFilter) → IsPermutation old new → (word : ℕ) → is_found marks new masked inverted word ≡ is_found marks old masked inverted word
found-sorted marks old new masked inverted moved word =
    ap (λ (b : Bool). is_marked marks word || (b || (is_matched masked word || is_matched inverted word))) (sym (list_any-IsPermutation (λ i. bit_and word extended_mask == i) old new moved))

-- ---- words of another kind than those listed

tag_left : (word : ℕ) → bit_and (bit_and word extended_mask) 3221225472 ≡ bit_and word 3221225472
tag_left word = and_assoc 3221225472 word extended_mask

pub unlisted : (ids : List ℕ) (word : ℕ) → All (λ id. IsTrue (is_extended id)) ids → is_extended word ≡ false → is_listed ids word ≡ false
unlisted [] word tagged other = refl
unlisted (id ∷ ids) word tagged other =
    let apart : bit_and word extended_mask ≢ id = λ same. true≢false (sym (tagged 0 0 (omega arith)) ∙ (ap is_extended (sym same) ∙ (ap (λ (tag : ℕ). tag == 2147483648) (tag_left word) ∙ other))) in
    ap (λ (b : Bool). b || is_listed ids word) (ne_eqb (bit_and word extended_mask) id apart) ∙ unlisted ids word (λ k d inside. tagged (suc k) d (omega arith)) other

-- ---- a search by halves

has : (x : ℕ) (xs : List ℕ) (i : ℕ) → i < length xs → get_or xs i 0 ≡ x → list_any (λ y. x == y) xs ≡ true
has x [] i inside at = absurd (omega arith)
has x (y ∷ ys) zero inside at = ap (λ (b : Bool). b || list_any (λ y. x == y) ys) (eq-eqb x y (sym at))
has x (y ∷ ys) (suc i) inside at = ap (λ (b : Bool). (x == y) || b) (has x ys i (omega arith) at) ∙ or_true (x == y)
  where
    or_true : (a : Bool) → (a || true) ≡ true
    or_true true = refl
    or_true false = refl

lacks : (x : ℕ) (xs : List ℕ) → ((k : ℕ) → k < length xs → get_or xs k 0 ≢ x) → list_any (λ y. x == y) xs ≡ false
lacks x [] none = refl
lacks x (y ∷ ys) none = ap (λ (b : Bool). b || list_any (λ y. x == y) ys) (ne_eqb x y (λ same. none 0 (omega arith) (sym same))) ∙ lacks x ys (λ k inside. none (suc k) (omega arith))

pub listed-from_search : (xs : List ℕ) (x : ℕ) (r : Result ℕ ℕ) → IsNonDecreasing xs → IsBinarySearchResult (λ y. nat_cmp y x) xs r → is_ok r ≡ list_any (λ y. x == y) xs
listed-from_search xs x (Ok i) rising found =
    let at = searched xs x (Ok i) found (λ i j up inside. rising i j 0 up inside) in
    sym (has x xs i at.0 at.1)
listed-from_search xs x (Err i) rising found =
    let at = searched xs x (Err i) found (λ i j up inside. rising i j 0 up inside) in
    sym (lacks x xs (λ k inside same. elim (cases_order k i) [
      | inl here ↦ absurd (omega (arith, at.2 k (omega arith) inside, same))
      | inr (inl below) ↦ absurd (omega (arith, at.1 k below, same))
      | inr (inr above) ↦ absurd (omega (arith, at.2 k (omega arith) inside, same))
    ]))
