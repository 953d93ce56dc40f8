use Rattle.std.proofs.Common.{◌≡◌, ◌≢◌, ℕ, zero, suc, ◌<◌, ◌^◌, ◌==◌, nat_lt, Bool, true, false, ◌&&◌, List, [], ap, arith, refl, bit_or, if◌then◌else◌, inl, inr, ◌∙◌}
use Rattle.std.specs.Int.{bit_at}
use Rattle.std.proofs.lemmas.Bool.{cases_eq, ne_eqb}
use Rattle.std.proofs.lemmas.Nat.Bits.{bit_at_or, bit_at-pow_same, bit_at-pow_other, bit_at_above}
use Rattle.can_frame.specs.Sets.{is_in, bits_where}
use Rattle.can_confine.specs.Confinement.{ErrorCounts, all_stepped, is_off, state_of}
use Rattle.can_attempt.specs.declared.class.Class.{Class}
use Rattle.can_attempt.specs.declared.class.Class.TheVariants.{Done, LastBit, Destroyed, NoAck}
use Rattle.can_attempt.specs.Attempts.{Transmission, state_at, is_among, set_of, receivers, is_struck, receiver_step, class_of, counts_after}

-- Membership in sets of interfaces, and which interfaces go off the bus.

-- the bit that a step sets
set_bit : (x : Bool) (b n i : ℕ) → i ≡ n → bit_at b i ≡ 0 → bit_at (if x then bit_or b (2 ^ n) else b) i ≡ (if x then 1 else 0)
set_bit false b n i same clear = clear
set_bit true b n i same clear =
    let one : bit_at (2 ^ n) i ≡ 1 = rw same (bit_at-pow_same n) in
    bit_at_or b (2 ^ n) i ∙ rw (clear, one) refl

-- the other bits do not change
other_bit : (x : Bool) (b n i : ℕ) → i ≢ n → bit_at (if x then bit_or b (2 ^ n) else b) i ≡ bit_at b i
other_bit false b n i other = refl
other_bit true b n i other =
    let none : bit_at (2 ^ n) i ≡ 0 = bit_at-pow_other n i other in
    bit_at_or b (2 ^ n) i ∙ rw none (omega arith)

-- the bits below n are those at the places that pass the test
pub bit_at-bits_where : (p : ℕ → Bool) (n i : ℕ) → bit_at (bits_where p n) i ≡ (if nat_lt i n && p i then 1 else 0)
bit_at-bits_where p zero i =
    let past : nat_lt i 0 ≡ false = grind arith in
    bit_at_above 0 0 i (omega arith) (omega arith) ∙ rw past refl
bit_at-bits_where p (suc n) i =
    elim (cases_eq i n) [
      | inl same ↦
          let past : nat_lt i n ≡ false = grind (arith, same) in
          let now : nat_lt i (suc n) ≡ true = grind (arith, same) in
          let clear : bit_at (bits_where p n) i ≡ 0 = bit_at-bits_where p n i ∙ rw past refl in
          set_bit (p n) (bits_where p n) n i same clear ∙ rw (now, same) refl
      | inr other ↦
          let alike : nat_lt i (suc n) ≡ nat_lt i n = grind (arith, other) in
          other_bit (p n) (bits_where p n) n i other ∙ bit_at-bits_where p n i ∙ rw alike refl
    ]

one_if : (x : Bool) → ((if x then 1 else 0) == 1) ≡ x
one_if true = refl
one_if false = refl

-- an interface is in the set of a list exactly if it is in the list
pub is_in-of : (is : List ℕ) (i : ℕ) → is_in i (set_of is) ≡ (nat_lt i 16 && is_among i is)
is_in-of is i = ap (λ (b : ℕ). b == 1) (bit_at-bits_where (λ k. is_among k is) 16 i) ∙ one_if (nat_lt i 16 && is_among i is)

pub is_in-set_of : (is : List ℕ) (i : ℕ) → i < 16 → is_in i (set_of is) ≡ is_among i is
is_in-set_of is i within = let below : nat_lt i 16 ≡ true = grind (arith, within) in is_in-of is i ∙ ap (λ b. b && is_among i is) below

-- no step of a receiver takes it off the bus
receivers_stay : (k : Class) (b : Bool) (c : ErrorCounts) → is_off (state_of (all_stepped c (receiver_step k b))) ≡ is_off (state_of c)
receivers_stay Done true c = grind arith
receivers_stay Done false c = grind arith
receivers_stay LastBit b c = grind arith
receivers_stay Destroyed b c = grind arith
receivers_stay NoAck true c = grind arith
receivers_stay NoAck false c = refl

others_stay : (x : Bool) (k : Class) (b : Bool) (c : ErrorCounts) → is_off (state_of (all_stepped c (if x then receiver_step k b else []))) ≡ is_off (state_of c)
others_stay true k b c = receivers_stay k b c
others_stay false k b c = refl

-- an attempt takes no interface except its winner off the bus
pub winner-alone-off : (t : Transmission) (i : ℕ) → i ≢ t.winner → is_off (state_of (counts_after t i)) ≡ is_off (state_at t i)
winner-alone-off t i other =
    let apart : (i == t.winner) ≡ false = ne_eqb i t.winner other in
    rw apart (others_stay (is_among i (receivers t)) (class_of t) (is_struck t.verdict i) (t.counts i))
