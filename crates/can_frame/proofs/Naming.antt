use Rattle.std.proofs.Common.{◌≡◌, ◌≢◌, ◌↔◌, ℕ, ◌+◌, ◌<◌, ◌≤◌, Bool, true, cond, not, nat_eq, ltb, List, [], length, get_or, Option, Some, None, IsNone, IfSome, slice_get, refl, sym, ap, ◌∙◌, arith, zero-add, rules}
use Rattle.std.specs.List.{list_all, AllPairs, Contains, position_or_len, enumerate_from}
use Rattle.std.specs.Option.{option_eq}
use Rattle.std.specs.Str.{bytes_eq}
use Rattle.std.proofs.lemmas.Slice.Eq.{bytes_eq-Decides}
use Rattle.std.proofs.lemmas.Bool.{false_from_ne_true, false≢true, not-true}
use Rattle.std.proofs.lemmas.Bool.Decides.{nat_tests, Decides-eqb}
use Rattle.std.proofs.lemmas.List.Sums.{position_or_len_is, prefix_len_passes, AllPass-from_list_all, list_all-from_AllPass}
use Rattle.std.proofs.lemmas.List.Elements.{All-get_or, All-from_get_or}
use Rattle.std.proofs.lemmas.List.FromFn.{get_or-enumerate_from, length-enumerate_from}
use Rattle.std.proofs.lemmas.List.Quantifiers.{position-Some}
use Rattle.std.proofs.lemmas.Option.{slice_get-get_or, slice_get_within, get_or_from_slice_get}
use Rattle.can_frame.specs.Names.{place_of}

-- the place that is found has the name
pub place_of-Some : (names : List (List ℕ)) (name : List ℕ) (i : ℕ) → place_of names name ≡ Some i → slice_get names i ≡ Some name
place_of-Some names name i e =
    let at = position-Some (λ other. bytes_eq other name) names i name e in
    slice_get-get_or names i name at.0 ∙ ap Some ((bytes_eq-Decides (get_or names i name) name).0 at.1)

pub place_of-is : (names : List (List ℕ)) (name d : List ℕ) (i : ℕ) → i < length names → ((k : ℕ) → k < i → get_or names k d ≢ name) → get_or names i d ≡ name → place_of names name ≡ Some i
place_of-is names name d i inside before here =
    let at : position_or_len (λ other. bytes_eq other name) names ≡ i = position_or_len_is (λ other. bytes_eq other name) names i d (omega arith)
    (λ k h. false_from_ne_true _ (λ e. before k h ((bytes_eq-Decides (get_or names k d) name).0 e)))
    (λ _. (bytes_eq-Decides (get_or names i d) name).1 here) in
    let test : ltb i (length names) ≡ true = search (rules, nat_tests) in
    rw at (rw test refl)

-- if no place is found, the name is not in the list
place_of-None : (names : List (List ℕ)) (name : List ℕ) → place_of names name ≡ None → Contains names name → ⊥
place_of-None names name e (k, inside, here) =
    let past : length names ≤ position_or_len (λ other. bytes_eq other name) names = past_all (position_or_len (λ other. bytes_eq other name) names) (length names) e in
    let other = prefix_len_passes (λ x. not (bytes_eq x name)) names k name (omega arith) in
    absurd (false≢true (sym (not-true _ other) ∙ (bytes_eq-Decides (get_or names k name) name).1 here))
  where
    past_all : (p n : ℕ) → cond (ltb p n) (Some p) None ≡ None → n ≤ p
    past_all p n e = grind (arith, nat_tests)

pub found-place_of : (names : List (List ℕ)) (name : List ℕ) (o : Option ℕ) → o ≡ place_of names name → IfSome o (λ i. slice_get names i ≡ Some name)
found-place_of names name None e = tt
found-place_of names name (Some i) e = place_of-Some names name i (sym e)

pub missing-place_of : (names : List (List ℕ)) (name : List ℕ) (o : Option ℕ) → o ≡ place_of names name → IsNone o ↔ (Contains names name → ⊥)
missing-place_of names name None e = (λ _. place_of-None names name (sym e), λ _. search rules)
missing-place_of names name (Some i) e =
    let at = place_of-Some names name i (sym e) in
    (λ h. absurd (search rules), λ h. absurd (h (i, slice_get_within names i name at, get_or_from_slice_get names i name name at)))

-- the first occurrence of the name is at its own place
abbrev pub stands_first : List (List ℕ) → ℕ × List ℕ → Bool
stands_first names p = option_eq nat_eq (place_of names p.1) (Some p.0)

same_place : (o : Option ℕ) (i : ℕ) → option_eq nat_eq o (Some i) ≡ true → o ≡ Some i
same_place None i e = absurd (false≢true e)
same_place (Some x) i e = ap Some ((Decides-eqb x i).0 e)

is_place : (o : Option ℕ) (i : ℕ) → o ≡ Some i → option_eq nat_eq o (Some i) ≡ true
is_place None i e = absurd (cc)
is_place (Some x) i e = (Decides-eqb x i).1 (cc)

pub distinct-from_places : (names : List (List ℕ)) → list_all (stands_first names) (enumerate_from 0 names) ≡ true → AllPairs ◌≢◌ names
distinct-from_places names all i j d below inside same =
    let within : j < length (enumerate_from 0 names) = rw length-enumerate_from inside in
    let here = All-get_or (λ p. stands_first names p ≡ true) (enumerate_from 0 names) j (0, d) within (AllPass-from_list_all (stands_first names) (enumerate_from 0 names) all) in
    let first = same_place _ _ (rw (get_or-enumerate_from 0 names j (0, d) inside) at here) in
    let at = position-Some (λ other. bytes_eq other (get_or names j d)) names (0 + j) d first in
    absurd (false≢true (sym (at.2 i (omega arith)) ∙ (bytes_eq-Decides (get_or names i d) (get_or names j d)).1 same))

pub places-from_distinct : (names : List (List ℕ)) → AllPairs ◌≢◌ names → list_all (stands_first names) (enumerate_from 0 names) ≡ true
places-from_distinct names pairs =
    list_all-from_AllPass (stands_first names) (enumerate_from 0 names) (All-from_get_or (λ p. stands_first names p ≡ true) (enumerate_from 0 names) (0, []) each)
  where
    each : (i : ℕ) → i < length (enumerate_from 0 names) → stands_first names (get_or (enumerate_from 0 names) i (0, [])) ≡ true
    each i within =
        let inside : i < length names = rw length-enumerate_from at within in
        let first = place_of-is names (get_or names i []) [] i inside (λ k h. pairs k i [] h inside) refl in
        rw (get_or-enumerate_from 0 names i (0, []) inside, zero-add) (is_place _ i first)
