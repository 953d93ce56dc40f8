use Rattle.std.proofs.Common.{◌≡◌, ◌<◌, ◌+◌, ◌*◌, ◌%◌, ◌^◌, ℕ, zero, suc, Bool, true, false, not, refl, sym, ap, ◌∙◌, bit_and, bit_xor, if◌then◌else◌, arith}
use Rattle.std.specs.Prelude.{◌==◌}
use Rattle.std.specs.Int.{bit_at}
use Rattle.std.proofs.lemmas.Nat.{and_comm, and_xor_apart, and_mod, and_le_l}
use Rattle.std.proofs.lemmas.Nat.Bits.{and_pow, bit_at_xor, bit_at-pow_same, bit_at-lt}
use Rattle.std.proofs.Math.Nat.{mod-eq_of_lt}
use Rattle.can_filter.specs.Filters.{CanFilter, inverse_of, agrees, matches}

-- A filter and its inverse, and the bits of an error mask.

-- a flipped bit is 0 exactly if the bit was 1
turned_bit : (b : ℕ) → b < 2 → (((b + 1) % 2) * 2 ^ 29 == 0) ≡ not (b * 2 ^ 29 == 0)
turned_bit zero below = refl
turned_bit (suc zero) below = refl
turned_bit (suc (suc b)) below = absurd (omega (arith, below))

turned : (id : ℕ) → (bit_and (bit_xor id (2 ^ 29)) (2 ^ 29) == 0) ≡ not (bit_and id (2 ^ 29) == 0)
turned id =
    ap (λ n. n == 0) (and_pow (bit_xor id (2 ^ 29)) 29)
    ∙ ap (λ b. b * 2 ^ 29 == 0) (bit_at_xor id (2 ^ 29) 29 ∙ ap (λ b. (bit_at id 29 + b) % 2) (bit_at-pow_same 29))
    ∙ turned_bit (bit_at id 29) (bit_at-lt id 29)
    ∙ ap (λ n. not (n == 0)) (sym (and_pow id 29))

-- the bit that marks inversion is not compared
same_bits : (f : CanFilter) (received : ℕ) → bit_and f.mask (2 ^ 29) ≡ 0 → agrees (inverse_of f) received ≡ agrees f received
same_bits f received unmarked =
    ap (λ n. bit_and received f.mask == n) (and_xor_apart f.mask f.id (2 ^ 29) (and_comm (2 ^ 29) f.mask ∙ unmarked))

by_mark : (zero_mark agree : Bool) → (if not (not zero_mark) then not agree else agree) ≡ not (if not zero_mark then not agree else agree)
by_mark true true = refl
by_mark true false = refl
by_mark false true = refl
by_mark false false = refl

pub inverse_parts : (f : CanFilter) (received : ℕ) → bit_and f.mask (2 ^ 29) ≡ 0 → matches (inverse_of f) received ≡ not (matches f received)
inverse_parts f received unmarked =
    ap (λ b. if not b then not (agrees (inverse_of f) received) else agrees (inverse_of f) received) (turned f.id)
    ∙ ap (λ b. if not (not (bit_and f.id (2 ^ 29) == 0)) then not b else b) (same_bits f received unmarked)
    ∙ by_mark (bit_and f.id (2 ^ 29) == 0) (agrees f received)

pub low_bits_count : (k class mask : ℕ) → class < 2 ^ k → bit_and class mask ≡ bit_and class (mask % 2 ^ k)
low_bits_count k class mask below =
    let short : bit_and class mask < 2 ^ k = omega (arith, and_le_l class mask, below) in
    sym (mod-eq_of_lt short) ∙ and_mod class mask k ∙ ap (λ c. bit_and c (mask % 2 ^ k)) (mod-eq_of_lt below)
