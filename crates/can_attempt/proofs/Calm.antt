use Rattle.std.proofs.Common.{◌≡◌, ◌==◌, ℕ, zero, suc, ◌<◌, ◌≤◌, ◌+◌, ◌-◌, ◌%◌, ◌^◌, nat_lt, Bool, true, false, not, List, [], ◌∷◌, filter, length, All, IsTrue, bit_or, bit_xor, max, refl, ap, sym, ◌∙◌, inl, inr, arith, if◌then◌else◌}
use Rattle.std.specs.Prelude.{◌&&◌, ◌||◌}
use Rattle.std.specs.Int.{bit_at, from_bool}
use Rattle.std.specs.List.{list_any}
use Rattle.std.proofs.lemmas.Bool.{cases_eq, cases_lt, false≢true}
use Rattle.std.proofs.lemmas.Grind.{common_steps}
use Rattle.std.proofs.lemmas.List.FromFn.{fill_by_all}
use Rattle.std.proofs.lemmas.Nat.{or_comm}
use Rattle.std.proofs.lemmas.Nat.Bits.{bit_at_ones, bit_at_ones_above, bit_at_or, bit_at_xor, bit_at-zero, bit_at-pow_same, bit_at-pow_other, same_from_bits}
use Rattle.can_frame.specs.Sets.{bits_where, set_where, no_ifaces}
use Rattle.can_confine.specs.Confinement.{ErrorCounts, all_stepped, at_start, is_off, is_passive, is_silent, state_of}
use Rattle.can_confine.specs.declared.state.State.{State}
use Rattle.can_fault.specs.declared.verdict.Verdict.{Verdict}
use Rattle.can_fault.specs.declared.verdict.Verdict.TheVariants as verdict
use Rattle.can_attempt.specs.declared.class.Class.TheVariants as class
use Rattle.can_attempt.specs.declared.ack_mode.AckMode.{AckMode}
use Rattle.can_attempt.specs.declared.ack_mode.AckMode.TheVariants.{Always, Peers}
use Rattle.can_attempt.specs.declared.class.Class.{Class}
use Rattle.can_attempt.specs.declared.judgement.Judgement.{Judgement}
use Rattle.can_attempt.specs.declared.nodes.Nodes.{Nodes}
use Rattle.can_attempt.specs.Attempts.{Transmission, accepted_in, attempt_between, can_hear, class_of, class_when, counts_after, counts_at, counts_in, hit, is_acknowledged, is_always, is_among, is_struck, judged, receivers, receiver_step, set_of, state_at, steps_in, unhurt, winner_step}
use Rattle.can_attempt.proofs.Judged.{same_judgement}
use Rattle.can_attempt.proofs.Places.{bits_where_below, is_among-unhurt}
use Rattle.can_attempt.proofs.Standing.{bit_at-bits_where}

-- Frames that are sent without a fault while all counts are 0.

abbrev counts_of : ℕ → ℕ → Bool → ErrorCounts
counts_of t r d = record { tec = t; rec = r; down = d }

-- if the bitwise OR of two numbers is 0, both numbers are 0
pub zero_of_or : (a b : ℕ) → bit_or a b ≡ 0 → a ≡ 0
zero_of_or a b none = same_from_bits a 0 (λ i.
    let most : max (bit_at a i) (bit_at b i) ≡ 0 = sym (bit_at_or a b i) ∙ ap (λ n. bit_at n i) none ∙ bit_at-zero i in
    omega (arith, most) ∙ sym (bit_at-zero i))

-- if the bitwise OR of both counts and the bit for a node that is down is 0, the counts are those at the start
pub zero_counts : (c : ErrorCounts) (t r d : ℕ) → t ≡ c.tec → r ≡ c.rec → d ≡ from_bool c.down → bit_or (bit_or t r) d ≡ 0 → c ≡ at_start
zero_counts c t r d tec rec down none =
    let counts : bit_or t r ≡ 0 = zero_of_or (bit_or t r) d none in
    let flag : d ≡ 0 = zero_of_or d (bit_or t r) (or_comm d (bit_or t r) ∙ none) in
    let transmit : c.tec ≡ 0 = sym tec ∙ zero_of_or t r counts in
    let receive : c.rec ≡ 0 = sym rec ∙ zero_of_or r t (or_comm r t ∙ counts) in
    ap (λ (n : ℕ). counts_of n c.rec c.down) transmit
    ∙ ap (λ (n : ℕ). counts_of 0 n c.down) receive
    ∙ ap (counts_of 0 0) (up c.down (sym down ∙ flag))
  where
    up : (b : Bool) → from_bool b ≡ 0 → b ≡ false
    up false none = refl
    up true none = absurd (omega (arith, none))

stays : (s : State) (wins hears named : Bool) → named ≡ false → all_stepped at_start (if wins then winner_step class.Done s else if hears then receiver_step class.Done named else []) ≡ at_start
stays s true hears named plain = refl
stays s false true named plain = ap (λ (b : Bool). all_stepped at_start (receiver_step class.Done b)) plain
stays s false false named plain = refl

pub calm_stays : (t : Transmission) (i : ℕ) → t.verdict ≡ verdict.Good → t.counts i ≡ at_start → counts_in class.Done t i ≡ at_start
calm_stays t i good calm =
    ap (λ (c : ErrorCounts). all_stepped c (steps_in class.Done t i)) calm
    ∙ stays (state_at t i) (i == t.winner) (is_among i (receivers t)) (is_struck t.verdict i) (ap (λ (v : Verdict). is_struck v i) good)

-- the bits of all places below c except w
pub bits-others : (c w : ℕ) → w < c → bit_xor (2 ^ c - 1) (2 ^ w) ≡ bits_where (λ i. not (i == w)) c
bits-others c w there = same_from_bits _ _ each
  where
    sum : (i a b : ℕ) → bit_at (2 ^ c - 1) i ≡ a → bit_at (2 ^ w) i ≡ b → bit_at (bit_xor (2 ^ c - 1) (2 ^ w)) i ≡ (a + b) % 2
    sum i a b all one = bit_at_xor (2 ^ c - 1) (2 ^ w) i ∙ ap (λ n. (n + bit_at (2 ^ w) i) % 2) all ∙ ap (λ n. (a + n) % 2) one

    each : (i : ℕ) → bit_at (bit_xor (2 ^ c - 1) (2 ^ w)) i ≡ bit_at (bits_where (λ k. not (k == w)) c) i
    each i = elim (cases_eq i w) [
      | inl same ↦
          let out : (nat_lt i c && not (i == w)) ≡ false = grind (arith, same) in
          sum i 1 1 (bit_at_ones c i (omega (arith, same, there))) (rw same (bit_at-pow_same w)) ∙ sym (bit_at-bits_where (λ k. not (k == w)) c i ∙ rw out refl)
      | inr other ↦ elim (cases_lt i c) [
        | inl inside ↦
            let in_it : (nat_lt i c && not (i == w)) ≡ true = grind (arith, other, inside) in
            sum i 1 0 (bit_at_ones c i inside) (bit_at-pow_other w i other) ∙ sym (bit_at-bits_where (λ k. not (k == w)) c i ∙ rw in_it refl)
        | inr past ↦
            let out : (nat_lt i c && not (i == w)) ≡ false = grind (arith, past) in
            sum i 0 0 (bit_at_ones_above c i past) (bit_at-pow_other w i other) ∙ sym (bit_at-bits_where (λ k. not (k == w)) c i ∙ rw out refl)
      ]
    ]

filter_never : (p : ℕ → Bool) → ((i : ℕ) → p i ≡ false) → (xs : List ℕ) → filter p xs ≡ []
filter_never p never [] = refl
filter_never p never (x ∷ xs) = rw (never x) (filter_never p never xs)

some_among : (i : ℕ) (xs : List ℕ) → is_among i xs ≡ true → not (length xs == 0) ≡ true
some_among i [] among = absurd (false≢true among)
some_among i (x ∷ xs) among = grind arith

-- an interface other than w, on a bus with more than one interface
abbrev another : ℕ → ℕ
another zero = 1
another (suc w) = 0

another-other : (w : ℕ) → (another w == w) ≡ false
another-other zero = refl
another-other (suc w) = grind arith

another-there : (w c : ℕ) → 1 < c → another w < c
another-there zero c more = more
another-there (suc w) c more = omega (arith, more)

and_true : (x : Bool) → (x && true) ≡ x
and_true x = grind arith

module _ (nodes : Nodes) (w : ℕ) (zeros : All (λ c. c ≡ at_start) nodes.counters) where
  pub zero_at : (i : ℕ) → counts_at nodes i ≡ at_start
  zero_at i = elim (cases_lt i (length nodes.counters)) [
    | inl inside ↦ zeros i at_start inside
    | inr past ↦ grind (arith, common_steps, past)
  ]

  hears_others : (a : AckMode) (i : ℕ) → can_hear (attempt_between nodes w verdict.Good a) i ≡ not (i == w)
  hears_others a i = ap (λ (k : ErrorCounts). not (i == w) && not (is_silent (state_of k))) (zero_at i) ∙ and_true (not (i == w))

  unhurt_others : (a : AckMode) (i : ℕ) → is_among i (unhurt (attempt_between nodes w verdict.Good a)) ≡ (not (i == w) && nat_lt i nodes.count)
  unhurt_others a i = is_among-unhurt (attempt_between nodes w verdict.Good a) i ∙ ap (λ (b : Bool). b && nat_lt i nodes.count) (hears_others a i)

  heard : (a : AckMode) → 1 < nodes.count → not (length (unhurt (attempt_between nodes w verdict.Good a)) == 0) ≡ true
  heard a more =
      let other = another-other w in
      let there : nat_lt (another w) nodes.count ≡ true = grind (arith, another-there w nodes.count more) in
      some_among (another w) (unhurt (attempt_between nodes w verdict.Good a)) (unhurt_others a (another w) ∙ rw (other, there) refl)

  acknowledged : (a : AckMode) → IsTrue (is_always a || nat_lt 1 nodes.count) → is_acknowledged (attempt_between nodes w verdict.Good a) ≡ true
  acknowledged Always some = refl
  acknowledged Peers some = heard Peers (grind (arith, some))

  none_hit : (a : AckMode) → hit (attempt_between nodes w verdict.Good a) ≡ []
  none_hit a = filter_never (is_struck verdict.Good) (λ i. refl) (receivers (attempt_between nodes w verdict.Good a))

  -- the outcome of an attempt in which nothing can go wrong is `Done`
  pub calm_class : (a : AckMode) → IsTrue (is_always a || nat_lt 1 nodes.count) → class_of (attempt_between nodes w verdict.Good a) ≡ class.Done
  calm_class a some =
      let t : Transmission = attempt_between nodes w verdict.Good a in
      ap (λ (struck : List ℕ). class_when (list_any (λ i. not (is_passive (state_at t i))) struck) (is_acknowledged t) false) (none_hit a)
      ∙ ap (λ (b : Bool). class_when false b false) (acknowledged a some)

  calm_after : (a : AckMode) → IsTrue (is_always a || nat_lt 1 nodes.count) → (i : ℕ) → counts_after (attempt_between nodes w verdict.Good a) i ≡ at_start
  calm_after a some i =
      let t : Transmission = attempt_between nodes w verdict.Good a in
      ap (λ (k : Class). counts_in k t i) (calm_class a some) ∙ calm_stays t i refl (zero_at i)

  -- the judgement of an attempt in which nothing can go wrong
  pub judged_calm : (a : AckMode) (j : Judgement) → IsTrue (is_always a || nat_lt 1 nodes.count) → nodes.count ≤ 16 → length nodes.counters ≡ 16
      → j.class ≡ class.Done → j.accepted ≡ set_where (λ i. not (i == w)) nodes.count → j.hit ≡ no_ifaces → j.counters ≡ nodes.counters → j.off ≡ no_ifaces
      → j ≡ judged (attempt_between nodes w verdict.Good a)
  judged_calm a j some few all done accepted hit_none counters off_none =
      let t : Transmission = attempt_between nodes w verdict.Good a in
      let class : class_of t ≡ class.Done = calm_class a some in
      let bits : bits_where (λ i. is_among i (unhurt t)) 16 ≡ bits_where (λ i. not (i == w)) nodes.count = bits_where_below (λ i. is_among i (unhurt t)) (λ i. not (i == w)) nodes.count 16 few (unhurt_others a) in
      same_judgement j (judged t)
      (done ∙ sym class)
      (accepted ∙ sym (ap (λ (k : Class). set_of (accepted_in k t)) class ∙ ap (λ (b : ℕ). record { 0 = b }) bits))
      (hit_none ∙ sym (ap set_of (none_hit a)))
      (counters ∙ fill_by_all (counts_after t) nodes.counters 16 at_start all (λ k below. zero_at k ∙ sym (calm_after a some k)))
      (off_none ∙ sym (ap (λ (k : ErrorCounts). set_of (if is_off (state_of k) then w ∷ [] else [])) (calm_after a some w)))
