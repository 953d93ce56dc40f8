use Rattle.std.proofs.Common.{◌≡◌, ◌≢◌, ℕ, zero, suc, ◌+◌, ◌<◌, ◌≤◌, ◌==◌, nat_le, nat_lt, Bool, true, false, not, ◌&&◌, ◌||◌, List, [], ◌∷◌, length, map, filter, find, slice_get, slice_index_or, Option, Some, None, IfSome, IsNone, is_some, inl, inr, refl, sym, ap, ◌∙◌, subst, arith}
use Rattle.std.specs.List.{list_any, range_with_len}
use Rattle.std.specs.Option.{option_map}
use Rattle.std.proofs.lemmas.Bool.{cases_Bool, cond-true, cond-false, and_from, and_parts, and_left, lt-ltb, ltb-true, eqb-true, eq-eqb, or_left, or_right, or_cases, le-leb}
use Rattle.std.proofs.lemmas.List.{length-map}
use Rattle.std.proofs.lemmas.List.FromFn.{length-range_with_len}
use Rattle.std.proofs.lemmas.Option.{slice_get-map, slice_get_within}
use Rattle.can_frame.specs.Arbitration.{arbitration_bits, goes_before, key_of}
use Rattle.can_frame.proofs.Keys.{key_of-before, goes_before-key_of}
use Rattle.can_arbiter.specs.Keys.{IsWinner, IsIdle}
use Rattle.can_confine.specs.Confinement.{is_silent}
use Rattle.can_attempt.specs.Attempts.{is_among}
use Rattle.can_attempt.proofs.Places.{is_among-filter, is_among-range, any_among, any_same, any_none}
use Rattle.can_event.specs.declared.bus_config.BusConfig.{BusConfig}
use Rattle.can_event.specs.declared.entry.Entry.{Entry}
use Rattle.can_event.specs.declared.pending.Pending.{Pending}
use Rattle.can_bus.specs.Transmit.{head_of}
use Rattle.can_bus.specs.Counters.{state_at}
use Rattle.can_bus.specs.Attempts.{contenders, bits_in, beats, winner}
use Rattle.can_bus.specs.Legal.{IsLegal}
use Rattle.can_bus.specs.State.{key_in, kept_keys}
use Rattle.can_bus.proofs.Lists.{Rises, Rises-filter, range-rises, slice_get-range}
use Rattle.can_bus.proofs.OffFacts.{off-no-head, head-below}

-- The winner that the arbiter returns is the winner that the history gives.

-- ---- the first of increasing numbers that satisfies a condition

clash : {P : Type 0} (s : Bool) → s ≡ false → s ≡ true → P
clash s isnt is = cc

or-right : (s t : Bool) → s ≡ false → (s || t) ≡ true → t ≡ true
or-right s t isnt either = elim (or_cases s t either) [ inl is ↦ clash s isnt is | inr is ↦ is ]

among-above : (a b w : ℕ) (xs : List ℕ) → Rises a b xs → is_among w xs ≡ true → a ≤ w
among-above a b w [] r there = cc
among-above a b w (y ∷ ys) r there =
    elim (or_cases (y == w) (is_among w ys) there) [ inl here ↦ omega (arith, eqb-true y w here, r.0) | inr later ↦ omega (arith, among-above (y + 1) b w ys r.1 later, r.0) ]

first-found : (p : ℕ → Bool) (a b w : ℕ) (xs : List ℕ) → Rises a b xs → is_among w xs ≡ true → p w ≡ true → ((i : ℕ) → i < w → is_among i xs ≡ true → p i ≡ false) → find p xs ≡ Some w
first-found p a b w [] rises among passes others = cc
first-found p a b w (x ∷ xs) rises among passes others =
    elim (cases_Bool (x == w)) [
      | inl here ↦ let is : x ≡ w = eqb-true x w here in cond-true (p x) (Some x) (find p xs) (ap p is ∙ passes) ∙ ap (λ (n : ℕ). Some n) is
      | inr other ↦
          let later : is_among w xs ≡ true = or-right (x == w) (is_among w xs) other among in
          let above : x + 1 ≤ w = among-above (x + 1) b w xs rises.1 later in
          cond-false (p x) (Some x) (find p xs) (others x (omega arith) (or_left (x == x) (is_among x xs) (eq-eqb x x refl)))
          ∙ first-found p (x + 1) b w xs rises.1 later passes (λ i lt there. others i lt (or_right (x == i) (is_among i xs) there))
    ]

none-among : (p : ℕ → Bool) (xs : List ℕ) → ((i : ℕ) → is_among i xs ≡ true → p i ≡ false) → list_any p xs ≡ false
none-among p xs none = any_same p (λ i. false) xs none ∙ any_none xs

none-left : (p : ℕ → Bool) (xs : List ℕ) → ((i : ℕ) → is_among i xs ≡ true → p i ≡ false) → filter p xs ≡ []
none-left p [] none = refl
none-left p (x ∷ xs) none =
    cond-false (p x) (x ∷ filter p xs) (filter p xs) (none x (or_left (x == x) (is_among x xs) (eq-eqb x x refl)))
    ∙ none-left p xs (λ i there. none i (or_right (x == i) (is_among i xs) there))

-- ---- the arbitration keys in the state

pub record HoldsKey (past : List Entry) (i k : ℕ) : Type 0 where
  pub few : i < 16
  pub pending : Pending
  pub head : head_of past i ≡ Some pending
  pub key : key_of pending.frame ≡ k

key-at : (past : List Entry) (i : ℕ) → i < 16 → slice_get (kept_keys past) i ≡ Some (key_in (head_of past i))
unfolding kept_keys
key-at past i lt =
    slice_get-map (λ (j : ℕ). key_in (head_of past j)) (range_with_len 0 16) i
    ∙ ap (option_map (λ (j : ℕ). key_in (head_of past j))) (range-at 16 lt)
  where
    range-at : (n : ℕ) → i < n → slice_get (range_with_len 0 n) i ≡ Some i
    range-at n below = slice_get-range 0 n i below ∙ ap (λ (m : ℕ). Some m) (omega arith)

length-kept_keys : (past : List Entry) → length (kept_keys past) ≡ 16
unfolding kept_keys
length-kept_keys past = long 16
  where
    long : (n : ℕ) → length (map (λ (j : ℕ). key_in (head_of past j)) (range_with_len 0 n)) ≡ n
    long n = length-map (range_with_len 0 n) (λ (j : ℕ). key_in (head_of past j)) ∙ length-range_with_len 0 n

held-by : (past : List Entry) (i k : ℕ) (p : Option Pending) → i < 16 → head_of past i ≡ p → key_in p ≡ Some k → HoldsKey past i k
held-by past i k None lt head key = cc
held-by past i k (Some p) lt head key = record { few = lt; pending = p; head = head; key = (cc) }

pub holds_key : (past : List Entry) (i k : ℕ) → slice_get (kept_keys past) i ≡ Some (Some k) → HoldsKey past i k
holds_key past i k at =
    let lt : i < 16 = subst (λ (n : ℕ). i < n) (length-kept_keys past) (slice_get_within (kept_keys past) i (Some k) at) in
    let same : Some (key_in (head_of past i)) ≡ Some (Some k) = sym (key-at past i lt) ∙ at in
    held-by past i k (head_of past i) lt refl (cc)

pub key-held : (past : List Entry) (i : ℕ) (p : Pending) → i < 16 → head_of past i ≡ Some p → slice_get (kept_keys past) i ≡ Some (Some (key_of p.frame))
key-held past i p lt head = key-at past i lt ∙ ap (λ (q : Option Pending). Some (key_in q)) head

-- ---- the interfaces that compete for the bus

pub record Contends (c : BusConfig) (past : List Entry) (i : ℕ) : Type 0 where
  pub below : i < c.ifaces
  pub pending : Pending
  pub head : head_of past i ≡ Some pending

some-head : (p : Option Pending) → is_some p ≡ true → (q : Pending) × (p ≡ Some q)
some-head None h = cc
some-head (Some q) h = (q, refl)

pub contends : (c : BusConfig) (past : List Entry) (i : ℕ) → is_among i (contenders c past) ≡ true → Contends c past i
contends c past i there =
    let both = and_parts (is_some (head_of past i) && not (is_silent (state_at c past i))) (is_among i (range_with_len 0 c.ifaces)) (sym (is_among-filter (λ j. is_some (head_of past j) && not (is_silent (state_at c past j))) i (range_with_len 0 c.ifaces)) ∙ there) in
    let within = and_parts (nat_le 0 i) (nat_lt i (0 + c.ifaces)) (sym (is_among-range i 0 c.ifaces) ∙ both.1) in
    let has = some-head (head_of past i) (and_parts (is_some (head_of past i)) (not (is_silent (state_at c past i))) both.0).0 in
    record { below = omega (arith, ltb-true i (0 + c.ifaces) within.1); pending = has.0; head = has.1 }

live : (b : Bool) → (b ≡ true → ⊥) → not b ≡ true
live true h = absurd (h refl)
live false h = refl

pub contends-from_head : (c : BusConfig) (past : List Entry) → IsLegal c past → c.ifaces ≤ 16 → (i : ℕ) (p : Pending) → head_of past i ≡ Some p → is_among i (contenders c past) ≡ true
contends-from_head c past legal few i p head =
    let below : i < c.ifaces = head-below c past legal i p head in
    let is_live : not (is_silent (state_at c past i)) ≡ true = live (is_silent (state_at c past i)) (λ off. let none = off-no-head c past legal few i off in (cc)) in
    is_among-filter (λ j. is_some (head_of past j) && not (is_silent (state_at c past j))) i (range_with_len 0 c.ifaces)
    ∙ and_from (is_some (head_of past i) && not (is_silent (state_at c past i))) (is_among i (range_with_len 0 c.ifaces))
    (and_from (is_some (head_of past i)) (not (is_silent (state_at c past i))) (ap (λ (q : Option Pending). is_some q) head) is_live)
    (is_among-range i 0 c.ifaces ∙ and_from (nat_le 0 i) (nat_lt i (0 + c.ifaces)) (le-leb 0 i (omega arith)) (lt-ltb i (0 + c.ifaces) (omega arith)))

-- ---- the interface that wins

beats-by_key : (past : List Entry) (j i : ℕ) (p q : Pending) → head_of past j ≡ Some p → head_of past i ≡ Some q → key_of p.frame < key_of q.frame → beats past j i ≡ true
beats-by_key past j i p q hj hi lt =
    ap (λ (o : Option Pending). goes_before (bits_in o) (bits_in (head_of past i))) hj
    ∙ ap (λ (o : Option Pending). goes_before (arbitration_bits p.frame) (bits_in o)) hi
    ∙ goes_before-key_of p.frame q.frame lt

not-beaten : (past : List Entry) (j i : ℕ) (p q : Pending) → head_of past j ≡ Some p → head_of past i ≡ Some q → key_of q.frame ≤ key_of p.frame → beats past j i ≡ false
not-beaten past j i p q hj hi le =
    false_unless (beats past j i) (λ yes.
    let before : goes_before (arbitration_bits p.frame) (arbitration_bits q.frame) ≡ true =
    ap (λ (o : Option Pending). goes_before (bits_in o) (arbitration_bits q.frame)) (sym hj) ∙ ap (λ (o : Option Pending). goes_before (bits_in (head_of past j)) (bits_in o)) (sym hi) ∙ yes in
    let lt = key_of-before p.frame q.frame before in
    absurd (omega arith))
  where
    false_unless : (b : Bool) → (b ≡ true → ⊥) → b ≡ false
    false_unless true h = absurd (h refl)
    false_unless false h = refl

pub winner-is : (c : BusConfig) (past : List Entry) → IsLegal c past → c.ifaces ≤ 16 → (w : ℕ) → IsWinner (kept_keys past) w → winner c past ≡ Some w
winner-is c past legal few w wins =
    let has = holds_key past w wins.0 wins.1.holds in
    let among : is_among w (contenders c past) ≡ true = contends-from_head c past legal few w has.pending has.head in
    let rises = Rises-filter (λ i. is_some (head_of past i) && not (is_silent (state_at c past i))) 0 c.ifaces (range_with_len 0 c.ifaces) (range-rises 0 c.ifaces c.ifaces (omega arith)) in
    first-found (λ i. not (list_any (λ j. beats past j i) (contenders c past))) 0 c.ifaces w (contenders c past) rises among
    (ap not (none-among (λ j. beats past j w) (contenders c past) (λ j there.
    let other = contends c past j there in
    let le : wins.0 ≤ key_of other.pending.frame = wins.1.least j (key_of other.pending.frame) (key-held past j other.pending (omega (arith, other.below)) other.head) in
    not-beaten past j w other.pending has.pending other.head has.head (omega (arith, has.key)))))
    (λ i lt there.
    let other = contends c past i there in
    let held = key-held past i other.pending (omega (arith, other.below)) other.head in
    let le : wins.0 ≤ key_of other.pending.frame = wins.1.least i (key_of other.pending.frame) held in
    let ne : key_of other.pending.frame ≢ wins.0 = λ same. wins.1.lowest i lt (held ∙ ap (λ (k : ℕ). Some (Some k)) same) in
    ap not (any_among (λ j. beats past j i) w (contenders c past) among (beats-by_key past w i has.pending other.pending has.head other.head (omega (arith, has.key)))))

slice_get-read : (xs : List (Option ℕ)) (i : ℕ) (d x : Option ℕ) → slice_get xs i ≡ Some x → slice_index_or xs i d ≡ x
slice_get-read [] i d x at = cc
slice_get-read (y ∷ ys) zero d x at = cc
slice_get-read (y ∷ ys) (suc i) d x at = slice_get-read ys i d x at

find-none : (p : ℕ → Bool) (xs : List ℕ) → xs ≡ [] → find p xs ≡ None
find-none p xs is = ap (find p) is

headless : (p : Option Pending) → key_in p ≡ None → is_some p ≡ false
headless None h = refl
headless (Some p) h = cc

pub idle-is : (c : BusConfig) (past : List Entry) → c.ifaces ≤ 16 → IsIdle (kept_keys past) → winner c past ≡ None
idle-is c past few idle =
    find-none (λ i. not (list_any (λ j. beats past j i) (contenders c past))) (contenders c past)
    (none-left (λ i. is_some (head_of past i) && not (is_silent (state_at c past i))) (range_with_len 0 c.ifaces) (λ i there.
    let within = and_parts (nat_le 0 i) (nat_lt i (0 + c.ifaces)) (sym (is_among-range i 0 c.ifaces) ∙ there) in
    let below : i < 16 = omega (arith, ltb-true i (0 + c.ifaces) within.1) in
    and_left (is_some (head_of past i)) (not (is_silent (state_at c past i))) (headless (head_of past i) (idle_at i below))))
  where
    idle_at : (i : ℕ) → i < 16 → key_in (head_of past i) ≡ None
    idle_at i below =
        let at = key-at past i below in
        let long = length-kept_keys past in
        let none = idle i (Some 0) (omega (arith, long)) in
        let read = slice_get-read (kept_keys past) i (Some 0) (key_in (head_of past i)) at in
        sym read ∙ none

-- the arbiter's answer for the keys in the state is the winner that the history gives
pub answered-is : (c : BusConfig) (past : List Entry) → IsLegal c past → c.ifaces ≤ 16 → (w : Option ℕ) → IfSome w (IsWinner (kept_keys past)) → (IsNone w → IsIdle (kept_keys past)) → w ≡ winner c past
answered-is c past legal few None first none = sym (idle-is c past few (none refl))
answered-is c past legal few (Some w) first none = sym (winner-is c past legal few w first)
