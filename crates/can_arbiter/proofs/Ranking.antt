use Rattle.std.proofs.Common.{◌≡◌, ◌≢◌, ◌==◌, ℕ, ◌<◌, ◌≤◌, ◌+◌, ◌-◌, ◌*◌, ◌%◌, ◌/◌, ◌↔◌, Bool, true, false, cond, not, List, [], ◌∷◌, ◌++◌, length}
use Rattle.std.proofs.Common.{get_or, take, drop, slice_set, slice_get, filter, true≢false, Option, Some, None, SomeIff, IfSome, IsNone, zero, suc}
use Rattle.std.proofs.Common.{refl, sym, ap, ◌∙◌, subst, inl, inr, arith, eq-eqb, ne_eqb, ltb, ltb-true, ltb-false, take-append-drop, length-set}
use Rattle.std.proofs.Common.{set-set, get_or-set_same, get_or-set_other}
use Rattle.std.specs.List.{AllPairs, insert}
use Rattle.std.proofs.lemmas.Bool.{cases_eq, cases_order}
use Rattle.std.proofs.lemmas.List.Edits.{length-insert, get_or-insert_below, get_or-insert_at, get_or-insert_above}
use Rattle.std.proofs.lemmas.List.Elements.{All-get_or, All-from_get_or}
use Rattle.std.specs.List.Sorted.{IsNonDecreasing, IsPartitionedBy, IsPartitionPoint}
use Rattle.std.proofs.lemmas.List.Sorted.{IsPartitionedBy-ltb}
use Rattle.std.proofs.lemmas.List.Kept.{AllPairs-filter}
use Rattle.std.proofs.lemmas.List.FromFn.{fill_by_all, get_or-map-range_with_len}
use Rattle.std.proofs.lemmas.Option.{slice_get-get_or, slice_get_within, get_or_from_slice_get}
use Rattle.std_collections.proofs.IndexTableLemmas.Probe.{pigeonhole}
use Rattle.can_arbiter.specs.Keys.{no_keys, IsIdle, IsWinner}
use Rattle.can_arbiter.specs.Ranks.{key_in, keys_in, length-keys_in, GoesBefore}

-- Rows of ranks, and the keys that they represent.

-- ---- the keys of a row

get_or-keys_in : (ranks : List ℕ) (i : ℕ) (d : Option ℕ) → i < 16 → get_or (keys_in ranks) i d ≡ key_in ranks i
unfolding keys_in
get_or-keys_in ranks i d inside = get_or-map-range_with_len (key_in ranks) 0 16 i i d inside (omega arith)

keys_in-from : (ranks : List ℕ) (keys : List (Option ℕ)) → length keys ≡ 16 → ((k : ℕ) → k < 16 → get_or keys k None ≡ key_in ranks k) → keys_in ranks ≡ keys
unfolding keys_in
keys_in-from ranks keys long each = sym (fill_by_all (key_in ranks) keys 16 None long each)

-- two rows that differ only in the rank of interface n
pub keys_in-set : (old new : List ℕ) (n : ℕ) (held : Option ℕ) → n < 16 → key_in new n ≡ held → ((i : ℕ) → i ≢ n → key_in new i ≡ key_in old i) → keys_in new ≡ slice_set (keys_in old) n held
keys_in-set old new n held inside at others =
    keys_in-from new (slice_set (keys_in old) n held) (length-set (keys_in old) n held ∙ length-keys_in old) each
  where
    within : n < length (keys_in old)
    within = omega (arith, length-keys_in old)

    each : (k : ℕ) → k < 16 → get_or (slice_set (keys_in old) n held) k None ≡ key_in new k
    each k below = elim (cases_eq k n) [
      | inl same ↦ ap (λ (i : ℕ). get_or (slice_set (keys_in old) n held) i None) same ∙ get_or-set_same (keys_in old) n held None within ∙ sym at ∙ ap (key_in new) (sym same)
      | inr other ↦ get_or-set_other (keys_in old) n k held None other ∙ get_or-keys_in old k None below ∙ sym (others k other)
    ]

key_in-here : (rank : ℕ) (ranks : List ℕ) (i : ℕ) → rank % 16 ≡ i → key_in (rank ∷ ranks) i ≡ Some (rank / 16)
key_in-here rank ranks i is = ap (λ (b : Bool). cond b (Some (rank / 16)) (key_in ranks i)) (eq-eqb (rank % 16) i is)

pub key_in-behind : (rank : ℕ) (ranks : List ℕ) (i : ℕ) → rank % 16 ≢ i → key_in (rank ∷ ranks) i ≡ key_in ranks i
key_in-behind rank ranks i other = ap (λ (b : Bool). cond b (Some (rank / 16)) (key_in ranks i)) (ne_eqb (rank % 16) i other)

-- ---- an interface that holds no key

absent_behind : (rank : ℕ) (ranks : List ℕ) (n : ℕ) → key_in (rank ∷ ranks) n ≡ None → (rank % 16 ≢ n) × (key_in ranks n ≡ None)
absent_behind rank ranks n absent =
    let other : rank % 16 ≢ n = λ is. let held : Some (rank / 16) ≡ None = sym (key_in-here rank ranks n is) ∙ absent in absurd (cc) in
    (other, sym (key_in-behind rank ranks n other) ∙ absent)

-- no rank of the row belongs to the interface
pub absent_at : (ranks : List ℕ) (n : ℕ) → key_in ranks n ≡ None → (k d : ℕ) → k < length ranks → get_or ranks k d % 16 ≢ n
absent_at [] n absent k d inside = absurd (omega arith)
absent_at (rank ∷ ranks) n absent zero d inside = (absent_behind rank ranks n absent).0
absent_at (rank ∷ ranks) n absent (suc k) d inside = absent_at ranks n (absent_behind rank ranks n absent).1 k d (omega arith)

absent_in_front : (front back : List ℕ) (n : ℕ) → key_in (front ++ back) n ≡ None → key_in front n ≡ None
absent_in_front [] back n absent = refl
absent_in_front (rank ∷ front) back n absent =
    let split = absent_behind rank (front ++ back) n absent in
    key_in-behind rank front n split.0 ∙ absent_in_front front back n split.1

-- ---- a row without one interface

abbrev pub is_others : ℕ → ℕ → Bool
is_others n rank = not (rank % 16 == n)

pub kept : (n rank : ℕ) (ranks : List ℕ) → rank % 16 ≢ n → filter (is_others n) (rank ∷ ranks) ≡ rank ∷ filter (is_others n) ranks
kept n rank ranks other = ap (λ (b : Bool). cond (not b) (rank ∷ filter (is_others n) ranks) (filter (is_others n) ranks)) (ne_eqb (rank % 16) n other)

pub left_out : (n rank : ℕ) (ranks : List ℕ) → rank % 16 ≡ n → filter (is_others n) (rank ∷ ranks) ≡ filter (is_others n) ranks
left_out n rank ranks is = ap (λ (b : Bool). cond (not b) (rank ∷ filter (is_others n) ranks) (filter (is_others n) ranks)) (eq-eqb (rank % 16) n is)

pub key_in-cleared : (n : ℕ) (ranks : List ℕ) → key_in (filter (is_others n) ranks) n ≡ None
key_in-cleared n [] = refl
key_in-cleared n (rank ∷ ranks) = elim (cases_eq (rank % 16) n) [
  | inl same ↦ ap (λ (ranked : List ℕ). key_in ranked n) (left_out n rank ranks same) ∙ key_in-cleared n ranks
  | inr other ↦ ap (λ (ranked : List ℕ). key_in ranked n) (kept n rank ranks other) ∙ key_in-behind rank (filter (is_others n) ranks) n other ∙ key_in-cleared n ranks
]

pub key_in-others : (n : ℕ) (ranks : List ℕ) (i : ℕ) → i ≢ n → key_in (filter (is_others n) ranks) i ≡ key_in ranks i
key_in-others n [] i apart = refl
key_in-others n (rank ∷ ranks) i apart = elim (cases_eq (rank % 16) n) [
  | inl same ↦
      let other : rank % 16 ≢ i = λ is. apart (sym is ∙ same) in
      ap (λ (ranked : List ℕ). key_in ranked i) (left_out n rank ranks same) ∙ key_in-others n ranks i apart ∙ sym (key_in-behind rank ranks i other)
  | inr other ↦
      ap (λ (ranked : List ℕ). key_in ranked i) (kept n rank ranks other) ∙ ap (cond (rank % 16 == i) (Some (rank / 16))) (key_in-others n ranks i apart)
]

-- ---- a row with one rank more

put-here : (front back : List ℕ) (rank n : ℕ) → rank % 16 ≡ n → key_in front n ≡ None → key_in (front ++ rank ∷ back) n ≡ Some (rank / 16)
put-here [] back rank n is absent = key_in-here rank back n is
put-here (first ∷ front) back rank n is absent =
    let split = absent_behind first front n absent in
    key_in-behind first (front ++ rank ∷ back) n split.0 ∙ put-here front back rank n is split.1

put-others : (front back : List ℕ) (rank i : ℕ) → rank % 16 ≢ i → key_in (front ++ rank ∷ back) i ≡ key_in (front ++ back) i
put-others [] back rank i other = key_in-behind rank back i other
put-others (first ∷ front) back rank i other = ap (cond (first % 16 == i) (Some (first / 16))) (put-others front back rank i other)

pub key_in-put : (ranks : List ℕ) (place rank : ℕ) → key_in ranks (rank % 16) ≡ None → key_in (insert ranks place rank) (rank % 16) ≡ Some (rank / 16)
key_in-put ranks place rank absent =
    let whole : key_in (take place ranks ++ drop place ranks) (rank % 16) ≡ None = ap (λ (ranked : List ℕ). key_in ranked (rank % 16)) (take-append-drop place ranks) ∙ absent in
    put-here (take place ranks) (drop place ranks) rank (rank % 16) refl (absent_in_front (take place ranks) (drop place ranks) (rank % 16) whole)

pub key_in-put_others : (ranks : List ℕ) (place rank i : ℕ) → rank % 16 ≢ i → key_in (insert ranks place rank) i ≡ key_in ranks i
key_in-put_others ranks place rank i other =
    put-others (take place ranks) (drop place ranks) rank i other ∙ ap (λ (ranked : List ℕ). key_in ranked i) (take-append-drop place ranks)

get_or-insert_beyond : (xs : List ℕ) (place y d j : ℕ) → place < j → place ≤ length xs → get_or (insert xs place y) j d ≡ get_or xs (j - 1) d
get_or-insert_beyond xs place y d j beyond inside =
    let next : j ≡ (j - 1) + 1 = omega arith in
    ap (λ (n : ℕ). get_or (insert xs place y) n d) next ∙ get_or-insert_above xs place y d (j - 1) (omega arith) inside

-- inserting a rank between the lower and the higher ones keeps the row in order
pub in_order-put : (ranks : List ℕ) (place rank : ℕ) → AllPairs GoesBefore ranks → place ≤ length ranks → key_in ranks (rank % 16) ≡ None
    → ((k d : ℕ) → k < place → get_or ranks k d < rank) → ((k d : ℕ) → place ≤ k → k < length ranks → rank ≤ get_or ranks k d)
    → AllPairs GoesBefore (insert ranks place rank)
in_order-put ranks place rank ordered inside absent below above i j d before within =
    elim (cases_order i place) [
      | inl at ↦ subst (λ (x : ℕ). GoesBefore x (get_or (insert ranks place rank) j d)) (sym (here i at)) (rank_first (omega arith))
      | inr (inl low) ↦ elim (cases_order j place) [
        | inl at ↦ subst (λ (x : ℕ). GoesBefore (get_or (insert ranks place rank) i d) x) (sym (here j at)) (rank_last low)
        | inr (inl lower) ↦ subst2 (sym (get_or-insert_below ranks place rank d i low inside)) (sym (get_or-insert_below ranks place rank d j lower inside)) (ordered i j d before (omega arith))
        | inr (inr higher) ↦ subst2 (sym (get_or-insert_below ranks place rank d i low inside)) (sym (get_or-insert_beyond ranks place rank d j higher inside)) (ordered i (j - 1) d (omega arith) (omega (arith, long)))
      ]
      | inr (inr high) ↦ subst2 (sym (get_or-insert_beyond ranks place rank d i high inside)) (sym (get_or-insert_beyond ranks place rank d j (omega arith) inside)) (ordered (i - 1) (j - 1) d (omega arith) (omega (arith, long)))
    ]
  where
    long : length (insert ranks place rank) ≡ length ranks + 1
    long = length-insert ranks place rank inside

    subst2 : {a b x y : ℕ} → x ≡ a → y ≡ b → GoesBefore x y → GoesBefore a b
    subst2 {a} {b} {x} {y} e f h = subst (λ (v : ℕ). GoesBefore v b) e (subst (λ (v : ℕ). GoesBefore x v) f h)

    here : (k : ℕ) → k ≡ place → get_or (insert ranks place rank) k d ≡ rank
    here k at = ap (λ (n : ℕ). get_or (insert ranks place rank) n d) at ∙ get_or-insert_at ranks place rank d inside

    apart : (k : ℕ) → k < length ranks → get_or ranks k d % 16 ≢ rank % 16
    apart k under = absent_at ranks (rank % 16) absent k d under

    rank_last : i < place → GoesBefore (get_or (insert ranks place rank) i d) rank
    rank_last low = subst (λ (x : ℕ). GoesBefore x rank) (sym (get_or-insert_below ranks place rank d i low inside)) (below i d low, apart i (omega arith))

    rank_first : place < j → GoesBefore rank (get_or (insert ranks place rank) j d)
    rank_first higher =
        let under : j - 1 < length ranks = omega (arith, long) in
        let other = apart (j - 1) under in
        let least = above (j - 1) d (omega arith) under in
        let differs : get_or ranks (j - 1) d ≢ rank = λ same. other (ap (λ (n : ℕ). n % 16) same) in
        subst (λ (x : ℕ). GoesBefore rank x) (sym (get_or-insert_beyond ranks place rank d j higher inside)) (omega (arith, least, differs), λ same. other (sym same))

-- the row has at most one rank for each of the 16 interfaces
pub at_most_16 : (ranks : List ℕ) → AllPairs GoesBefore ranks → length ranks ≤ 16
at_most_16 ranks ordered = pigeonhole (length ranks) 16 number (λ i inside. omega arith) one
  where
    number : ℕ → ℕ
    number k = get_or ranks k 0 % 16

    one : (i j : ℕ) → i < length ranks → j < length ranks → number i ≡ number j → i ≡ j
    one i j under within same = elim (cases_order i j) [
      | inl at ↦ at
      | inr (inl less) ↦ absurd ((ordered i j 0 less within).1 same)
      | inr (inr more) ↦ absurd ((ordered j i 0 more under).1 (sym same))
    ]

-- ---- who goes first

-- the rank of a key
rank_of : (ranks : List ℕ) (i key : ℕ) → key_in ranks i ≡ Some key → (k : ℕ) × (k < length ranks) × (get_or ranks k 0 % 16 ≡ i) × (get_or ranks k 0 / 16 ≡ key)
rank_of [] i key held = absurd (cc)
rank_of (rank ∷ ranks) i key held = elim (cases_eq (rank % 16) i) [
  | inl same ↦
      let is : Some (rank / 16) ≡ Some key = sym (key_in-here rank ranks i same) ∙ held in
      (0, omega arith, same, cc)
  | inr other ↦
      let found = rank_of ranks i key (sym (key_in-behind rank ranks i other) ∙ held) in
      (suc found.0, omega (arith, found.1), found.2, found.3)
]

-- a key in the list of interfaces is also in the row
key_from_keys : (ranks : List ℕ) (i key : ℕ) → slice_get (keys_in ranks) i ≡ Some (Some key) → key_in ranks i ≡ Some key
key_from_keys ranks i key held =
    let inside = slice_get_within (keys_in ranks) i (Some key) held in
    sym (get_or-keys_in ranks i None (omega (arith, inside, length-keys_in ranks))) ∙ get_or_from_slice_get (keys_in ranks) i (Some key) None held

first_is_least : (rank : ℕ) (ranks : List ℕ) → AllPairs GoesBefore (rank ∷ ranks) → (k : ℕ) → k < length (rank ∷ ranks) → rank ≤ get_or (rank ∷ ranks) k 0
first_is_least rank ranks ordered zero inside = omega arith
first_is_least rank ranks ordered (suc k) inside = omega (arith, (ordered 0 (suc k) 0 (omega arith) inside).0)

pub first_wins : (rank : ℕ) (ranks : List ℕ) → AllPairs GoesBefore (rank ∷ ranks) → IsWinner (keys_in (rank ∷ ranks)) (rank % 16)
first_wins rank ranks ordered = (rank / 16, record { holds = holds; least = least; lowest = lowest })
  where
    ranked : List ℕ
    ranked = rank ∷ ranks

    inside : rank % 16 < 16
    inside = omega arith

    holds : slice_get (keys_in ranked) (rank % 16) ≡ Some (Some (rank / 16))
    holds = slice_get-get_or (keys_in ranked) (rank % 16) None (omega (arith, length-keys_in ranked)) ∙ ap Some (get_or-keys_in ranked (rank % 16) None inside ∙ key_in-here rank ranks (rank % 16) refl)

    least : (i other : ℕ) → slice_get (keys_in ranked) i ≡ Some (Some other) → rank / 16 ≤ other
    least i other held =
        let found = rank_of ranked i other (key_from_keys ranked i other held) in
        omega (arith, first_is_least rank ranks ordered found.0 found.1, found.3)

    lowest : (i : ℕ) → i < rank % 16 → slice_get (keys_in ranked) i ≢ Some (Some (rank / 16))
    lowest i below held =
        let found = rank_of ranked i (rank / 16) (key_from_keys ranked i (rank / 16) held) in
        absurd (omega (arith, first_is_least rank ranks ordered found.0 found.1, found.2, found.3))

pub idle_if_empty : IsIdle (keys_in [])
idle_if_empty = All-from_get_or (λ held. held ≡ None) (keys_in []) None (λ i inside. get_or-keys_in [] i None (omega (arith, length-keys_in [])))

pub not_idle : (rank : ℕ) (ranks : List ℕ) → IsIdle (keys_in (rank ∷ ranks)) → ⊥
not_idle rank ranks idle =
    let inside : rank % 16 < length (keys_in (rank ∷ ranks)) = omega (arith, length-keys_in (rank ∷ ranks)) in
    let none : get_or (keys_in (rank ∷ ranks)) (rank % 16) None ≡ None = All-get_or (λ held. held ≡ None) (keys_in (rank ∷ ranks)) (rank % 16) None inside idle in
    let held : Some (rank / 16) ≡ None = sym (get_or-keys_in (rank ∷ ranks) (rank % 16) None (omega arith) ∙ key_in-here rank ranks (rank % 16) refl) ∙ none in
    absurd (cc)

pub no_keys-empty : keys_in [] ≡ no_keys
unfolding keys_in
no_keys-empty = refl

-- ---- what the two changes leave

pub clears : (old new : List ℕ) (n : ℕ) → n < 16 → new ≡ filter (is_others n) old → keys_in new ≡ slice_set (keys_in old) n None
clears old new n inside is =
    ap keys_in is ∙ keys_in-set old (filter (is_others n) old) n None inside (key_in-cleared n old) (key_in-others n old)

pub keeps_order : (old new : List ℕ) (n : ℕ) → new ≡ filter (is_others n) old → AllPairs GoesBefore old → AllPairs GoesBefore new
keeps_order old new n is ordered = subst (AllPairs GoesBefore) (sym is) (AllPairs-filter GoesBefore (is_others n) old ordered)

-- ---- what `winner` returns by the first place

not_idle_at : (ranked : List ℕ) (first : ℕ) → slice_get ranked 0 ≡ Some first → IsIdle (keys_in ranked) → ⊥
not_idle_at [] first is idle = absurd (cc)
not_idle_at (rank ∷ ranks) first is idle = not_idle rank ranks idle

wins_at : (ranked : List ℕ) (first : ℕ) → AllPairs GoesBefore ranked → slice_get ranked 0 ≡ Some first → IsWinner (keys_in ranked) (first % 16)
wins_at [] first ordered is = absurd (cc)
wins_at (rank ∷ ranks) first ordered is =
    let same : rank ≡ first = cc in
    subst (λ (r : ℕ). IsWinner (keys_in (rank ∷ ranks)) (r % 16)) same (first_wins rank ranks ordered)

pub answers_first : (ranked : List ℕ) (first : ℕ) (answer : Option ℕ) → AllPairs GoesBefore ranked → slice_get ranked 0 ≡ Some first → SomeIff answer (first % 16 < 16) (first % 16) → IfSome answer (IsWinner (keys_in ranked))
answers_first ranked first None ordered is says = tt
answers_first ranked first (Some w) ordered is says = subst (IsWinner (keys_in ranked)) (sym says.1) (wins_at ranked first ordered is)

pub answers_some : (ranked : List ℕ) (first : ℕ) (answer : Option ℕ) → slice_get ranked 0 ≡ Some first → SomeIff answer (first % 16 < 16) (first % 16) → (IsNone answer ↔ IsIdle (keys_in ranked))
answers_some ranked first None is says = absurd (says (omega arith))
answers_some ranked first (Some w) is says = (λ none. absurd (true≢false none), λ idle. absurd (not_idle_at ranked first is idle))

pub answers_none : (ranked : List ℕ) → slice_get ranked 0 ≡ None → IsIdle (keys_in ranked)
answers_none [] is = idle_if_empty
answers_none (rank ∷ ranks) is = absurd (cc)

-- ---- a key that is set

pub absent_where_cleared : (old cleared : List ℕ) (n i : ℕ) → n < 16 → i ≡ n → keys_in cleared ≡ slice_set (keys_in old) n None → key_in cleared i ≡ None
absent_where_cleared old cleared n i inside is without =
    ap (key_in cleared) is ∙ sym (get_or-keys_in cleared n None inside) ∙ ap (λ (keys : List (Option ℕ)). get_or keys n None) without ∙ get_or-set_same (keys_in old) n None None (omega (arith, length-keys_in old))

-- the row without the interface, with the rank inserted between the lower and the higher ones
pub sets : (old cleared new : List ℕ) (n key place rank : ℕ) → n < 16 → rank ≡ key * 16 + n → keys_in cleared ≡ slice_set (keys_in old) n None → new ≡ insert cleared place rank
    → keys_in new ≡ slice_set (keys_in old) n (Some key)
sets old cleared new n key place rank inside is without put =
    ap keys_in put ∙ keys_in-set cleared (insert cleared place rank) n (Some key) inside at others ∙ ap (λ (keys : List (Option ℕ)). slice_set keys n (Some key)) without ∙ set-set (keys_in old) n None (Some key)
  where
    number : rank % 16 ≡ n
    number = omega (arith, is)

    absent : key_in cleared (rank % 16) ≡ None
    absent = absent_where_cleared old cleared n (rank % 16) inside number without

    at : key_in (insert cleared place rank) n ≡ Some key
    at = ap (key_in (insert cleared place rank)) (sym number) ∙ key_in-put cleared place rank absent ∙ ap Some (omega (arith, is))

    others : (i : ℕ) → i ≢ n → key_in (insert cleared place rank) i ≡ key_in cleared i
    others i apart = key_in-put_others cleared place rank i (λ same. apart (sym same ∙ number))

pub non_decreasing : (ranked : List ℕ) → AllPairs GoesBefore ranked → IsNonDecreasing ranked
non_decreasing ranked ordered i j d up inside = elim (cases_eq i j) [
  | inl same ↦ rw same (omega arith)
  | inr apart ↦ omega (arith, (ordered i j d (omega arith) inside).0)
]

-- the precondition of `partition_point`
pub parts : (ranked : List ℕ) (rank : ℕ) → AllPairs GoesBefore ranked → IsPartitionedBy (λ other. ltb other rank) ranked
parts ranked rank ordered = IsPartitionedBy-ltb (λ other. other) ranked rank (non_decreasing ranked ordered)

-- the row with the rank inserted at the place that `partition_point` returned
pub order_put : (old cleared new : List ℕ) (n key place rank : ℕ) → n < 16 → rank ≡ key * 16 + n → keys_in cleared ≡ slice_set (keys_in old) n None → new ≡ insert cleared place rank
    → AllPairs GoesBefore cleared → place ≤ length cleared → IsPartitionPoint (λ other. ltb other rank ≡ true) (λ other. ltb other rank ≡ false) cleared place → AllPairs GoesBefore new
order_put old cleared new n key place rank inside is without put ordered within point =
    subst (AllPairs GoesBefore) (sym put) (in_order-put cleared place rank ordered within absent (λ k d below. ltb-true _ _ (point.0 k d (omega arith) below)) (λ k d from under. ltb-false _ _ (point.1 k d from under)))
  where
    absent : key_in cleared (rank % 16) ≡ None
    absent = absent_where_cleared old cleared n (rank % 16) inside (omega (arith, is)) without

-- there is room for one more rank
pub has_room : (old cleared : List ℕ) (n key place rank : ℕ) → n < 16 → rank ≡ key * 16 + n → keys_in cleared ≡ slice_set (keys_in old) n None
    → AllPairs GoesBefore cleared → place ≤ length cleared → IsPartitionPoint (λ other. ltb other rank ≡ true) (λ other. ltb other rank ≡ false) cleared place → length cleared < 16
has_room old cleared n key place rank inside is without ordered within point =
    let more = at_most_16 (insert cleared place rank) (order_put old cleared (insert cleared place rank) n key place rank inside is without refl ordered within point) in
    omega (arith, more, length-insert cleared place rank within)
