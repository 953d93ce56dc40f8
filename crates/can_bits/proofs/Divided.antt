use Rattle.std.proofs.Common.{◌≡◌, ◌≢◌, ℕ, zero, suc, ◌+◌, ◌-◌, ◌*◌, ◌/◌, ◌%◌, ◌^◌, ◌<◌, ◌≤◌, ◌==◌, bit_and, bit_xor, Bool, true, false, List, [], ◌∷◌, ◌++◌, length, replicate, refl, sym, ap, ◌∙◌, arith, inl, inr, length-append}
use Rattle.std.specs.Int.{bit_at}
use Rattle.std.proofs.lemmas.Bool.{cases_Bool}
use Rattle.std.proofs.lemmas.Bool.Decides.{Decides-eqb}
use Rattle.std.proofs.lemmas.List.{length-replicate}
use Rattle.std.proofs.lemmas.Nat.{and_mask, one_shl}
use Rattle.std.proofs.lemmas.Nat.Bits.{bit_at-lt, bit_at-zero, bit_at-pow_same, bit_at-pow_other, bit_at_xor}
use Rattle.can_frame.specs.Arbitration.{low_bits}
use Rattle.can_frame.proofs.Bits.{IsBits, IsBits-append, IsBits-low_bits, length-low_bits}
use Rattle.can_wire.specs.Division.{xor, subtracted, remainder, check_of, check_from_one, generator_15, generator_17, generator_21}
use Rattle.can_wire.specs.FrameBits.{bit_of}
use Rattle.can_wire.specs.inner.Sending.{shifted, shifted_all}
use Rattle.can_wire.proofs.Words.{low_bits_step, low_bits_append, moved_high, moved_low}
use Rattle.can_wire.proofs.Divided.{register}
use Rattle.can_bits.specs.declared.bit.Bit.{Bit}
use Rattle.can_bits.specs.Sent.{levels}

-- The shift registers of all three generators compute long division. They start with zeros, or with a one followed by
-- zeros.

-- ---- a register as a number

-- the first bit of the register
first_bit : (w n : ℕ) → 1 ≤ w → low_bits w n ≡ bit_at n (w - 1) ∷ low_bits (w - 1) n
first_bit w n some = low_bits_step w n some

moved_on : (w n : ℕ) → 1 ≤ w → w ≤ 31 → low_bits w (n * 2 % 4294967296) ≡ low_bits (w - 1) n ++ 0 ∷ []
moved_on w n some fits =
    let e : w ≡ w - 1 + 1 = omega arith in
    ap (λ (k : ℕ). low_bits k (n * 2 % 4294967296)) e ∙ low_bits_append (w - 1) 1 (n * 2 % 4294967296) n 0 (λ k below. moved_high n 1 32 k (omega (arith, below, fits))) (λ k below. moved_low n 1 32 k below (omega (arith, below)) ∙ sym (bit_at-zero k))

xor_sum : (a b : ℕ) → a < 2 → b < 2 → xor a b ≡ (a + b) % 2
xor_sum zero zero p q = refl
xor_sum zero (suc zero) p q = refl
xor_sum (suc zero) zero p q = refl
xor_sum (suc zero) (suc zero) p q = refl
xor_sum (suc (suc a)) b p q = absurd (omega (arith, p))
xor_sum a (suc (suc b)) p q = absurd (omega (arith, q))

subtracted_low : (k m g : ℕ) → subtracted (low_bits k g) (low_bits k m) ≡ low_bits k (bit_xor m g)
subtracted_low zero m g = refl
subtracted_low (suc k) m g =
    let here : xor (bit_at m k) (bit_at g k) ≡ bit_at (bit_xor m g) k = xor_sum (bit_at m k) (bit_at g k) (bit_at-lt m k) (bit_at-lt g k) ∙ sym (bit_at_xor m g k) in
    ap (λ x. x ∷ subtracted (low_bits k g) (low_bits k m)) here ∙ ap (λ l. bit_at (bit_xor m g) k ∷ l) (subtracted_low k m g)

-- whether a bit equals the first bit of the register
first_test : (x : Bool) (t : ℕ) → t < 2 → x ≡ (t == 1) → (xor (bit_of x) t == 0) ≡ true
first_test x zero h e = rw e refl
first_test x (suc zero) h e = rw e refl
first_test x (suc (suc t)) h e = absurd (omega (arith, h))

other_test : (x : Bool) (t : ℕ) → t < 2 → (x ≡ (t == 1) → ⊥) → (xor (bit_of x) t == 0) ≡ false
other_test true zero h e = refl
other_test true (suc zero) h e = absurd (e refl)
other_test true (suc (suc t)) h e = absurd (omega (arith, h))
other_test false zero h e = absurd (e refl)
other_test false (suc zero) h e = refl
other_test false (suc (suc t)) h e = absurd (omega (arith, h))

seen_first : (w n : ℕ) → (bit_and (n / 2 ^ (w - 1)) 1 == 1) ≡ (bit_at n (w - 1) == 1)
seen_first w n = ap (λ (b : ℕ). b == 1) (and_mask (n / 2 ^ (w - 1)) 1)

-- the register after a bit that equals its first bit
pub shifted_same : (w n : ℕ) (g : List ℕ) (x : Bool) → 1 ≤ w → w ≤ 31 → x ≡ (bit_and (n / 2 ^ (w - 1)) 1 == 1) → low_bits w (n * 2 % 4294967296) ≡ shifted g (bit_of x) (low_bits w n)
shifted_same w n g x some fits e =
    let none = first_test x (bit_at n (w - 1)) (bit_at-lt n (w - 1)) (e ∙ seen_first w n) in
    moved_on w n some fits ∙ sym (ap (shifted g (bit_of x)) (first_bit w n some) ∙ rw none refl)

-- the register after a bit that differs from its first bit
pub shifted_other : (w n terms : ℕ) (x : Bool) → 1 ≤ w → w ≤ 31 → (x ≡ (bit_and (n / 2 ^ (w - 1)) 1 == 1) → ⊥) → low_bits w (bit_xor (n * 2 % 4294967296) terms) ≡ shifted (low_bits w terms) (bit_of x) (low_bits w n)
shifted_other w n terms x some fits ne =
    let one = other_test x (bit_at n (w - 1)) (bit_at-lt n (w - 1)) (λ e. ne (e ∙ sym (seen_first w n))) in
    sym (subtracted_low w (n * 2 % 4294967296) terms) ∙ (ap (subtracted (low_bits w terms)) (moved_on w n some fits) ∙ sym (ap (shifted (low_bits w terms) (bit_of x)) (first_bit w n some) ∙ rw one refl))

-- the bits below a one are zeros
zeros_below : (k j : ℕ) → k ≤ j → low_bits k (2 ^ j) ≡ replicate k 0
zeros_below zero j h = refl
zeros_below (suc k) j h =
    let other : k ≢ j = omega (arith, h) in
    rw (bit_at-pow_other j k other) (ap (λ (l : List ℕ). 0 ∷ l) (zeros_below k j (omega (arith, h))))

pub one_first : (w : ℕ) → 1 ≤ w → w ≤ 31 → low_bits w (1 * 2 ^ (w - 1) % 4294967296) ≡ 1 ∷ replicate (w - 1) 0
one_first w some fits =
    let k : ℕ = w - 1 in
    ap (low_bits w) (one_shl k 32 (omega (arith, fits))) ∙ (first_bit w (2 ^ k) some ∙ (ap (λ (b : ℕ). b ∷ low_bits k (2 ^ k)) (bit_at-pow_same k) ∙ ap (λ (l : List ℕ). 1 ∷ l) (zeros_below k k (omega arith))))

-- ---- what the register holds in the end

zero_xor : (b : ℕ) → b < 2 → xor b 0 ≡ b
zero_xor zero h = refl
zero_xor (suc zero) h = refl
zero_xor (suc (suc b)) h = absurd (omega (arith, h))

bits-zeros : (n : ℕ) → IsBits (replicate n 0)
bits-zeros zero = tt
bits-zeros (suc n) = (omega arith, bits-zeros n)

zeros-subtracted : (n : ℕ) (xs : List ℕ) → IsBits xs → n ≤ length xs → subtracted (replicate n 0) xs ≡ xs
zeros-subtracted zero xs bits h = refl
zeros-subtracted (suc n) [] bits h = absurd (omega (arith, h))
zeros-subtracted (suc n) (x ∷ xs) bits h = ap (λ y. y ∷ subtracted (replicate n 0) xs) (zero_xor x bits.0) ∙ ap (λ l. x ∷ l) (zeros-subtracted n xs bits.1 (omega (arith, h)))

-- bits that are followed by zeros
padded : (bits : List ℕ) (n : ℕ) → IsBits bits → IsBits (bits ++ replicate n 0)
padded bits n h = IsBits-append bits (replicate n 0) h (bits-zeros n)

-- if the register starts with zeros, it ends with the check sequence
pub from_zeros : (g bits : List ℕ) (n : ℕ) → 0 < n → IsBits g → length g ≡ n → IsBits bits → shifted_all g bits (replicate n 0) ≡ check_of g bits
unfolding check_of
from_zeros g bits n some gb long h =
    let zeros : List ℕ = replicate n 0 in
    let within : n ≤ length (bits ++ zeros) = omega (arith, length-append bits zeros, length-replicate n zero) in
    let start : subtracted zeros (bits ++ zeros) ≡ bits ++ zeros = zeros-subtracted n (bits ++ zeros) (padded bits n h) within in
    rw long (sym (register g bits zeros n some gb h (bits-zeros n) long (length-replicate n zero)) ∙ ap (remainder g (length bits)) start)

-- if the register starts with a one and zeros, it ends with the check sequence of the bits with their first bit
-- inverted
pub from_one : (g bits : List ℕ) (n : ℕ) → 0 < n → IsBits g → length g ≡ n → IsBits bits → 0 < length bits → shifted_all g bits (1 ∷ replicate (n - 1) 0) ≡ check_from_one g bits
unfolding check_of
from_one g [] n some gb long h any = absurd (omega (arith, any))
from_one g (b ∷ bits) n some gb long h any =
    let rest : List ℕ = replicate (n - 1) 0 in
    let zeros : List ℕ = replicate n 0 in
    let whole : length (1 ∷ rest) ≡ n = omega (arith, length-replicate (n - 1) zero, some) in
    let within : n - 1 ≤ length (bits ++ zeros) = omega (arith, length-append bits zeros, length-replicate n zero) in
    let start : subtracted (1 ∷ rest) (b ∷ bits ++ zeros) ≡ xor b 1 ∷ bits ++ zeros = ap (λ l. xor b 1 ∷ l) (zeros-subtracted (n - 1) (bits ++ zeros) (padded bits n h.1) within) in
    rw long (sym (register g (b ∷ bits) (1 ∷ rest) n some gb h (omega arith, bits-zeros (n - 1)) long whole) ∙ ap (remainder g (suc (length bits))) start)

-- ---- the three generators

pub low_15 : low_bits 15 17817 ≡ generator_15
unfolding generator_15
low_15 = refl

pub low_17 : low_bits 17 92251 ≡ generator_17
unfolding generator_17
low_17 = refl

pub low_21 : low_bits 21 1058969 ≡ generator_21
unfolding generator_21
low_21 = refl

pub values_are_bits : (bits : List Bit) → IsBits (levels bits)
values_are_bits [] = tt
values_are_bits (b ∷ bits) = (below b.is_recessive, values_are_bits bits)
  where
    below : (x : Bool) → bit_of x < 2
    below true = omega arith
    below false = omega arith
