use Rattle.std.proofs.Common.{◌≡◌, ◌≤◌, ◌-◌, ℕ, true, refl, sym, ap, ◌∙◌, bit_and, bit_xor}
use Rattle.std.specs.Prelude.{◌==◌}
use Rattle.std.specs.Int.Bits.{and_zero_r, xor_self, xor_assoc, xor_zero_l}
use Rattle.std.proofs.lemmas.Nat.{and_comm, and_assoc, and_xor_apart, xor_comm}
use Rattle.std.proofs.lemmas.Grind.{and-not_self}
use Rattle.std.proofs.lemmas.Bool.{eqb-true, eq-eqb}

-- The bits that two filters compare with the same value.

-- words that agree in all bits of a mask agree in some of these bits
fewer : (mask some a b : ℕ) → bit_and a mask ≡ bit_and b mask → bit_and a (bit_and mask some) ≡ bit_and b (bit_and mask some)
fewer mask some a b same = sym (and_assoc some a mask) ∙ ap (λ n. bit_and n some) same ∙ and_assoc some b mask

-- the bits of both masks, except those in which the identifiers differ
abbrev pub both_bits : ℕ → ℕ → ℕ → ℕ → ℕ
both_bits one_mask other_mask one other = bit_and (bit_and one_mask other_mask) (4294967295 - bit_xor one other)

undone : (one other : ℕ) → bit_xor other (bit_xor one other) ≡ one
undone one other =
    ap (bit_xor other) (xor_comm one other) ∙ sym (xor_assoc other other one) ∙ ap (λ n. bit_xor n one) (xor_self other) ∙ xor_zero_l one

-- in these bits the identifiers are the same
same_there : (one_mask other_mask one other : ℕ) → bit_xor one other ≤ 4294967295 → bit_and other (both_bits one_mask other_mask one other) ≡ bit_and one (both_bits one_mask other_mask one other)
same_there one_mask other_mask one other fits =
    let bits : ℕ = both_bits one_mask other_mask one other in
    let apart : bit_and (bit_xor one other) bits ≡ 0 = and_comm (bit_xor one other) bits ∙ and-not_self (bit_and one_mask other_mask) 4294967295 (bit_xor one other) (bit_xor one other) refl fits refl in
    sym (and_xor_apart bits other (bit_xor one other) apart) ∙ ap (λ n. bit_and n bits) (undone one other)

pub agrees_still : (one_mask other_mask one other received : ℕ) → (bit_and received one_mask == bit_and one one_mask) ≡ true → (bit_and received (both_bits one_mask other_mask one other) == bit_and one (both_bits one_mask other_mask one other)) ≡ true
agrees_still one_mask other_mask one other received h =
    let bits : ℕ = both_bits one_mask other_mask one other in
    let rest : ℕ = bit_and other_mask (4294967295 - bit_xor one other) in
    let parts : bits ≡ bit_and one_mask rest = and_assoc (4294967295 - bit_xor one other) one_mask other_mask in
    eq-eqb _ _ (ap (bit_and received) parts ∙ fewer one_mask rest received one (eqb-true _ _ h) ∙ ap (bit_and one) (sym parts))

pub agrees_too : (one_mask other_mask one other received : ℕ) → bit_xor one other ≤ 4294967295 → (bit_and received other_mask == bit_and other other_mask) ≡ true → (bit_and received (both_bits one_mask other_mask one other) == bit_and one (both_bits one_mask other_mask one other)) ≡ true
agrees_too one_mask other_mask one other received fits h =
    let bits : ℕ = both_bits one_mask other_mask one other in
    let rest : ℕ = bit_and one_mask (4294967295 - bit_xor one other) in
    let parts : bits ≡ bit_and other_mask rest = ap (λ n. bit_and n (4294967295 - bit_xor one other)) (and_comm one_mask other_mask) ∙ and_assoc (4294967295 - bit_xor one other) other_mask one_mask in
    eq-eqb _ _ (ap (bit_and received) parts ∙ fewer other_mask rest received other (eqb-true _ _ h) ∙ ap (bit_and other) (sym parts) ∙ same_there one_mask other_mask one other fits)

-- a bit that the first mask lacks is also lacking afterwards
pub lacks_still : (bit one_mask other_mask one other : ℕ) → bit_and one_mask bit ≡ 0 → bit_and (both_bits one_mask other_mask one other) bit ≡ 0
lacks_still bit one_mask other_mask one other lacks =
    let rest : ℕ = bit_and other_mask (4294967295 - bit_xor one other) in
    ap (λ n. bit_and n bit) (and_assoc (4294967295 - bit_xor one other) one_mask other_mask ∙ and_comm one_mask rest)
    ∙ and_assoc bit rest one_mask ∙ ap (bit_and rest) lacks ∙ and_zero_r rest
