use Rattle.std.proofs.Common.{◌≡◌, ◌≢◌, ℕ, zero, suc, ◌+◌, ◌*◌, ◌%◌, ◌<◌, ◌≤◌, ◌==◌, bit_xor, List, [], ◌∷◌, ◌++◌, length, refl, sym, ap, ◌∙◌, arith, inl, inr, true, false, length-append}
use Rattle.std.specs.Prelude.{replicate}
use Rattle.std.specs.Int.{bit_at}
use Rattle.std.proofs.lemmas.Bool.{cases_Bool}
use Rattle.std.proofs.lemmas.Bool.Decides.{Decides-eqb}
use Rattle.std.proofs.lemmas.List.{length-replicate}
use Rattle.std.proofs.lemmas.Nat.Bits.{bit_at-lt, bit_at-zero, bit_at_xor}
use Rattle.can_frame.specs.Arbitration.{low_bits}
use Rattle.can_frame.proofs.Bits.{IsBits, IsBits-append, IsBits-low_bits, length-low_bits}
use Rattle.can_wire.specs.Division.{xor, subtracted, remainder, check_of, generator_15}
use Rattle.can_wire.specs.FrameBits.{byte_bits}
use Rattle.can_wire.specs.inner.Sending.{register_bits, shifted, shifted_all}
use Rattle.can_wire.proofs.Words.{low_bits_append, moved_high, moved_low}

-- The shift register is long division.

-- ---- subtracting

-- subtracting does not change the number of bits
pub length-subtracted : (g xs : List ℕ) → length (subtracted g xs) ≡ length xs
length-subtracted [] xs = refl
length-subtracted (g ∷ gs) [] = refl
length-subtracted (g ∷ gs) (x ∷ xs) = ap suc (length-subtracted gs xs)

xor_zero : (b : ℕ) → b < 2 → xor b 0 ≡ b
xor_zero zero h = refl
xor_zero (suc zero) h = refl
xor_zero (suc (suc b)) h = absurd (omega (arith, h))

xor_xor : (x r g : ℕ) → x < 2 → r < 2 → g < 2 → xor (xor x r) g ≡ xor x (xor r g)
xor_xor zero zero zero a b c = refl
xor_xor zero zero (suc zero) a b c = refl
xor_xor zero (suc zero) zero a b c = refl
xor_xor zero (suc zero) (suc zero) a b c = refl
xor_xor (suc zero) zero zero a b c = refl
xor_xor (suc zero) zero (suc zero) a b c = refl
xor_xor (suc zero) (suc zero) zero a b c = refl
xor_xor (suc zero) (suc zero) (suc zero) a b c = refl
xor_xor (suc (suc x)) r g a b c = absurd (omega (arith, a))
xor_xor x (suc (suc r)) g a b c = absurd (omega (arith, b))
xor_xor x r (suc (suc g)) a b c = absurd (omega (arith, c))

bits-xor : (x y : ℕ) → xor x y < 2
bits-xor x y = elim (cases_Bool (x == y)) [
  | inl same ↦ rw same (omega arith)
  | inr other ↦ rw other (omega arith)
]

bits-subtracted : (g xs : List ℕ) → IsBits xs → IsBits (subtracted g xs)
bits-subtracted [] xs a = a
bits-subtracted (g ∷ gs) [] a = tt
bits-subtracted (g ∷ gs) (x ∷ xs) a = (bits-xor x g, bits-subtracted gs xs a.1)

-- one more zero at the end of the subtracted bits changes nothing
subtracted-zero : (r xs : List ℕ) → IsBits xs → length r < length xs → subtracted (r ++ 0 ∷ []) xs ≡ subtracted r xs
subtracted-zero [] [] bits h = absurd (omega (arith, h))
subtracted-zero [] (x ∷ xs) bits h = ap (λ y. y ∷ xs) (xor_zero x bits.0)
subtracted-zero (b ∷ r) [] bits h = refl
subtracted-zero (b ∷ r) (x ∷ xs) bits h = ap (λ l. xor x b ∷ l) (subtracted-zero r xs bits.1 (omega (arith, h)))

-- subtracting twice
subtracted-twice : (g r xs : List ℕ) → IsBits g → IsBits r → IsBits xs → length g ≤ length r → subtracted g (subtracted r xs) ≡ subtracted (subtracted g r) xs
subtracted-twice [] r xs a b c within = refl
subtracted-twice (x ∷ g) [] xs a b c within = absurd (omega (arith, within))
subtracted-twice (x ∷ g) (y ∷ r) [] a b c within = refl
subtracted-twice (x ∷ g) (y ∷ r) (z ∷ xs) a b c within =
    let here = xor_xor z y x c.0 b.0 a.0 in
    let rest = subtracted-twice g r xs a.1 b.1 c.1 (omega (arith, within)) in
    ap (λ w. w ∷ subtracted g (subtracted r xs)) here ∙ ap (λ l. xor z (xor y x) ∷ l) rest

-- subtracting zeros changes nothing, and subtracting from zeros gives the subtracted bits
bits-zeros : (n : ℕ) → IsBits (replicate n 0)
bits-zeros zero = tt
bits-zeros (suc n) = (omega arith, bits-zeros n)

zeros-subtracted : (n : ℕ) (xs : List ℕ) → IsBits xs → n ≤ length xs → subtracted (replicate n 0) xs ≡ xs
zeros-subtracted zero xs bits h = refl
zeros-subtracted (suc n) [] bits h = absurd (omega (arith, h))
zeros-subtracted (suc n) (x ∷ xs) bits h = ap (λ y. y ∷ subtracted (replicate n 0) xs) (xor_zero x bits.0) ∙ ap (λ l. x ∷ l) (zeros-subtracted n xs bits.1 (omega (arith, h)))

zero_xor : (b : ℕ) → b < 2 → xor 0 b ≡ b
zero_xor zero h = refl
zero_xor (suc zero) h = refl
zero_xor (suc (suc b)) h = absurd (omega (arith, h))

subtracted-zeros : (q : List ℕ) (n : ℕ) → IsBits q → length q ≡ n → subtracted q (replicate n 0) ≡ q
subtracted-zeros [] zero bits h = refl
subtracted-zeros [] (suc n) bits h = absurd (omega (arith, h))
subtracted-zeros (x ∷ q) zero bits h = absurd (omega (arith, h))
subtracted-zeros (x ∷ q) (suc n) bits h = ap (λ y. y ∷ subtracted q (replicate n 0)) (zero_xor x bits.0) ∙ ap (λ l. x ∷ l) (subtracted-zeros q n bits.1 (omega (arith, h)))

-- ---- the register after some bits is what is left of the division

pub register : (g bits r : List ℕ) (n : ℕ) → 0 < n → IsBits g → IsBits bits → IsBits r → length g ≡ n → length r ≡ n → remainder g (length bits) (subtracted r (bits ++ replicate n 0)) ≡ shifted_all g bits r
register g [] r n some bg bb br lg lr = subtracted-zeros r n br lr
register g (b ∷ bits) [] n some bg bb br lg lr = absurd (omega (arith, lr, some))
register g (b ∷ bits) (t ∷ r) n some bg bb br lg lr =
    let zeros : List ℕ = replicate n 0 in
    let all_bits = IsBits-append bits zeros bb.1 (bits-zeros n) in
    let r0 : List ℕ = r ++ 0 ∷ [] in
    let r0_bits : IsBits r0 = IsBits-append r (0 ∷ []) br.1 (omega arith, tt) in
    let r0_long : length r0 ≡ n = omega (arith, lr, length-append r (0 ∷ [])) in
    let within : n ≤ length (bits ++ zeros) = omega (arith, length-append bits zeros, length-replicate n (zero)) in
    let here : subtracted r0 (bits ++ zeros) ≡ subtracted r (bits ++ zeros) = subtracted-zero r (bits ++ zeros) all_bits (omega (arith, within, lr)) in
    let twice = subtracted-twice g r0 (bits ++ zeros) bg r0_bits all_bits (omega (arith, lg, r0_long)) in
    let next_bits : IsBits (subtracted g r0) = bits-subtracted g r0 r0_bits in
    let next_long : length (subtracted g r0) ≡ n = length-subtracted g r0 ∙ r0_long in
    elim (cases_Bool (xor b t == 0)) [
      | inl none ↦ rw none (ap (remainder g (length bits)) (sym here) ∙ register g bits r0 n some bg bb.1 r0_bits lg r0_long)
      | inr one ↦ rw one (ap (λ l. remainder g (length bits) (subtracted g l)) (sym here) ∙ (ap (remainder g (length bits)) twice ∙ register g bits (subtracted g r0) n some bg bb.1 next_bits lg next_long))
    ]

pub generator_bits : IsBits generator_15
unfolding generator_15
generator_bits = (omega arith, (omega arith, (omega arith, (omega arith, (omega arith, (omega arith, (omega arith, (omega arith, (omega arith, (omega arith, (omega arith, (omega arith, (omega arith, (omega arith, (omega arith, tt)))))))))))))))

pub length-generator : length generator_15 ≡ 15
unfolding generator_15
length-generator = refl

-- a register that begins with zeros ends with the check sequence
pub divided : (bits : List ℕ) → IsBits bits → shifted_all generator_15 bits (replicate 15 0) ≡ check_of generator_15 bits
unfolding check_of
divided bits h =
    let zeros : List ℕ = replicate 15 0 in
    let within : 15 ≤ length (bits ++ zeros) = omega (arith, length-append bits zeros, length-replicate 15 (zero)) in
    let start : subtracted zeros (bits ++ zeros) ≡ bits ++ zeros = zeros-subtracted 15 (bits ++ zeros) (IsBits-append bits zeros h (bits-zeros 15)) within in
    rw length-generator (sym (register generator_15 bits zeros 15 (omega arith) generator_bits h (bits-zeros 15) length-generator (length-replicate 15 zero)) ∙ ap (remainder generator_15 (length bits)) start)

-- ---- its length

length-remainder : (g bits : List ℕ) (n : ℕ) → n ≤ length bits → length (remainder g n bits) + n ≡ length bits
length-remainder g bits zero h = omega arith
length-remainder g [] (suc n) h = absurd (omega (arith, h))
length-remainder g (b ∷ bits) (suc n) h = elim (cases_Bool (b == 0)) [
  | inl none ↦ rw none (omega (arith, length-remainder g bits n (omega (arith, h))))
  | inr one ↦ rw one (omega (arith, length-remainder g (subtracted g bits) n (omega (arith, h, length-subtracted g bits)), length-subtracted g bits))
]

pub length-check_of : (g bits : List ℕ) → length (check_of g bits) ≡ length g
unfolding check_of
length-check_of g bits =
    let zeros : List ℕ = replicate (length g) 0 in
    omega (arith, length-remainder g (bits ++ zeros) (length bits) (omega (arith, length-append bits zeros)), length-append bits zeros, length-replicate (length g) zero)

-- ---- with its check sequence nothing is left of bits

xor_comm : (x y : ℕ) → x < 2 → y < 2 → xor x y ≡ xor y x
xor_comm zero zero a b = refl
xor_comm zero (suc zero) a b = refl
xor_comm (suc zero) zero a b = refl
xor_comm (suc zero) (suc zero) a b = refl
xor_comm (suc (suc x)) y a b = absurd (omega (arith, a))
xor_comm x (suc (suc y)) a b = absurd (omega (arith, b))

xor_same : (x : ℕ) → xor x x ≡ 0
xor_same x = rw ((Decides-eqb x x).1 refl) refl

-- subtracting in either order
subtracted-swapped : (g r xs : List ℕ) → IsBits g → IsBits r → IsBits xs → subtracted g (subtracted r xs) ≡ subtracted r (subtracted g xs)
subtracted-swapped [] r xs a b c = refl
subtracted-swapped (x ∷ g) [] xs a b c = refl
subtracted-swapped (x ∷ g) (y ∷ r) [] a b c = refl
subtracted-swapped (x ∷ g) (y ∷ r) (z ∷ xs) a b c =
    let here : xor (xor z y) x ≡ xor (xor z x) y = xor_xor z y x c.0 b.0 a.0 ∙ (ap (xor z) (xor_comm y x b.0 a.0) ∙ sym (xor_xor z x y c.0 a.0 b.0)) in
    ap (λ w. w ∷ subtracted g (subtracted r xs)) here ∙ ap (λ l. xor (xor z x) y ∷ l) (subtracted-swapped g r xs a.1 b.1 c.1)

-- subtracting the same bits twice changes nothing
subtracted-back : (g xs : List ℕ) → IsBits g → IsBits xs → subtracted g (subtracted g xs) ≡ xs
subtracted-back [] xs a b = refl
subtracted-back (x ∷ g) [] a b = refl
subtracted-back (x ∷ g) (z ∷ xs) a b =
    let here : xor (xor z x) x ≡ z = xor_xor z x x b.0 a.0 a.0 ∙ (ap (xor z) (xor_same x) ∙ xor_zero z b.0) in
    ap (λ w. w ∷ subtracted g (subtracted g xs)) here ∙ ap (λ l. z ∷ l) (subtracted-back g xs a.1 b.1)

subtracted-self : (xs : List ℕ) → subtracted xs xs ≡ replicate (length xs) 0
subtracted-self [] = refl
subtracted-self (x ∷ xs) = ap (λ w. w ∷ subtracted xs xs) (xor_same x) ∙ ap (λ l. 0 ∷ l) (subtracted-self xs)

-- the remainder of a sum is the sum of the remainders
remainder-sum : (g : List ℕ) (n : ℕ) (xs ys : List ℕ) → IsBits g → IsBits xs → IsBits ys → length xs ≡ length ys → n + length g ≤ length xs → remainder g n (subtracted xs ys) ≡ subtracted (remainder g n xs) (remainder g n ys)
remainder-sum g zero xs ys a b c same long = refl
remainder-sum g (suc n) [] ys a b c same long = absurd (omega (arith, long))
remainder-sum g (suc n) (x ∷ xs) [] a b c same long = absurd (omega (arith, same))
remainder-sum g (suc n) (zero ∷ xs) (zero ∷ ys) a b c same long = remainder-sum g n xs ys a b.1 c.1 (omega (arith, same)) (omega (arith, long))
remainder-sum g (suc n) (zero ∷ xs) (suc zero ∷ ys) a b c same long =
    let less = bits-subtracted g ys c.1 in
    ap (remainder g n) (subtracted-swapped g xs ys a b.1 c.1) ∙ remainder-sum g n xs (subtracted g ys) a b.1 less (omega (arith, same, length-subtracted g ys)) (omega (arith, long))
remainder-sum g (suc n) (suc zero ∷ xs) (zero ∷ ys) a b c same long =
    let less = bits-subtracted g xs b.1 in
    ap (remainder g n) (subtracted-twice g xs ys a b.1 c.1 (omega (arith, long))) ∙ remainder-sum g n (subtracted g xs) ys a less c.1 (omega (arith, same, length-subtracted g xs)) (omega (arith, long, length-subtracted g xs))
remainder-sum g (suc n) (suc zero ∷ xs) (suc zero ∷ ys) a b c same long =
    let less = bits-subtracted g xs b.1 in
    let others = bits-subtracted g ys c.1 in
    let both : subtracted (subtracted g xs) (subtracted g ys) ≡ subtracted xs ys = sym (subtracted-twice g xs (subtracted g ys) a b.1 others (omega (arith, long))) ∙ (ap (subtracted g) (sym (subtracted-swapped g xs ys a b.1 c.1)) ∙ subtracted-back g (subtracted xs ys) a (bits-subtracted xs ys c.1)) in
    ap (remainder g n) (sym both) ∙ remainder-sum g n (subtracted g xs) (subtracted g ys) a less others (omega (arith, same, length-subtracted g xs, length-subtracted g ys)) (omega (arith, long, length-subtracted g xs))
remainder-sum g (suc n) (suc (suc x) ∷ xs) (y ∷ ys) a b c same long = absurd (omega (arith, b.0))
remainder-sum g (suc n) (x ∷ xs) (suc (suc y) ∷ ys) a b c same long = absurd (omega (arith, c.0))

-- the remainder of zeros followed by other bits is these other bits
remainder-zeros : (g : List ℕ) (n : ℕ) (q : List ℕ) → remainder g n (replicate n 0 ++ q) ≡ q
remainder-zeros g zero q = refl
remainder-zeros g (suc n) q = remainder-zeros g n q

bits-remainder : (g : List ℕ) (n : ℕ) (xs : List ℕ) → IsBits xs → IsBits (remainder g n xs)
bits-remainder g zero xs b = b
bits-remainder g (suc n) [] b = tt
bits-remainder g (suc n) (x ∷ xs) b = elim (cases_Bool (x == 0)) [
  | inl none ↦ rw none (bits-remainder g n xs b.1)
  | inr one ↦ rw one (bits-remainder g n (subtracted g xs) (bits-subtracted g xs b.1))
]

-- bits followed by others are a sum
summed : (bits q : List ℕ) (m : ℕ) → IsBits bits → IsBits q → length q ≡ m → subtracted (replicate (length bits) 0 ++ q) (bits ++ replicate m 0) ≡ bits ++ q
summed [] q m a b long = subtracted-zeros q m b long
summed (x ∷ bits) q m a b long = ap (λ w. w ∷ subtracted (replicate (length bits) 0 ++ q) (bits ++ replicate m 0)) (xor_zero x a.0) ∙ ap (λ l. x ∷ l) (summed bits q m a.1 b long)

pub nothing_left : (g bits : List ℕ) → IsBits g → IsBits bits → remainder g (length bits) (bits ++ check_of g bits) ≡ replicate (length g) 0
unfolding check_of
nothing_left g bits a b =
    let k : ℕ = length bits in
    let zeros : List ℕ = replicate (length g) 0 in
    let all = IsBits-append bits zeros b (bits-zeros (length g)) in
    let q : List ℕ = remainder g k (bits ++ zeros) in
    let q_bits : IsBits q = bits-remainder g k (bits ++ zeros) all in
    let q_long : length q ≡ length g = length-check_of g bits in
    let front : List ℕ = replicate k 0 in
    let front_bits = IsBits-append front q (bits-zeros k) q_bits in
    let same : length (front ++ q) ≡ length (bits ++ zeros) = omega (arith, length-append front q, length-append bits zeros, length-replicate k zero, length-replicate (length g) zero, q_long) in
    let within : k + length g ≤ length (front ++ q) = omega (arith, length-append front q, length-replicate k zero, q_long) in
    ap (remainder g k) (sym (summed bits q (length g) b q_bits q_long)) ∙ (remainder-sum g k (front ++ q) (bits ++ zeros) a front_bits all same within ∙ (ap (λ l. subtracted l q) (remainder-zeros g k q) ∙ (subtracted-self q ∙ ap (λ n. replicate n 0) q_long)))

-- ---- several bits, and bytes

pub shifted_all-append : (g xs ys r : List ℕ) → shifted_all g (xs ++ ys) r ≡ shifted_all g ys (shifted_all g xs r)
shifted_all-append g [] ys r = refl
shifted_all-append g (x ∷ xs) ys r = shifted_all-append g xs ys (shifted g x r)

pub IsBits-byte_bits : (bytes : List ℕ) → IsBits (byte_bits bytes)
IsBits-byte_bits [] = tt
IsBits-byte_bits (b ∷ bytes) = IsBits-append (low_bits 8 b) (byte_bits bytes) (IsBits-low_bits 8 b) (IsBits-byte_bits bytes)

pub length-byte_bits : (bytes : List ℕ) → length (byte_bits bytes) ≡ 8 * length bytes
length-byte_bits [] = refl
length-byte_bits (b ∷ bytes) = omega (arith, length-append (low_bits 8 b) (byte_bits bytes), length-low_bits 8 b, length-byte_bits bytes)

-- ---- the register as a number

xor_sum : (a b : ℕ) → a < 2 → b < 2 → xor a b ≡ (a + b) % 2
xor_sum zero zero p q = refl
xor_sum zero (suc zero) p q = refl
xor_sum (suc zero) zero p q = refl
xor_sum (suc zero) (suc zero) p q = refl
xor_sum (suc (suc a)) b p q = absurd (omega (arith, p))
xor_sum a (suc (suc b)) p q = absurd (omega (arith, q))

subtracted_low : (k m g : ℕ) → subtracted (low_bits k g) (low_bits k m) ≡ low_bits k (bit_xor m g)
subtracted_low zero m g = refl
subtracted_low (suc k) m g =
    let here : xor (bit_at m k) (bit_at g k) ≡ bit_at (bit_xor m g) k = xor_sum (bit_at m k) (bit_at g k) (bit_at-lt m k) (bit_at-lt g k) ∙ sym (bit_at_xor m g k) in
    ap (λ x. x ∷ subtracted (low_bits k g) (low_bits k m)) here ∙ ap (λ l. bit_at (bit_xor m g) k ∷ l) (subtracted_low k m g)

generator_low : low_bits 15 17817 ≡ generator_15
unfolding generator_15
generator_low = refl

moved_on : (n : ℕ) → low_bits 15 (n * 2 % 65536) ≡ low_bits 14 n ++ 0 ∷ []
moved_on n = low_bits_append 14 1 (n * 2 % 65536) n 0 (λ k below. moved_high n 1 16 k (omega (arith, below))) (λ k below. moved_low n 1 16 k below (omega (arith, below)) ∙ sym (bit_at-zero k))

pub register_zero : register_bits 0 ≡ replicate 15 0
unfolding register_bits
register_zero = refl

-- a bit that is equal to the first bit of the register
pub shifted_same : (n b : ℕ) → b ≡ bit_at n 14 → register_bits (n * 2 % 65536) ≡ shifted generator_15 b (register_bits n)
unfolding register_bits
shifted_same n b h =
    let same : xor b (bit_at n 14) ≡ 0 = rw h (rw ((Decides-eqb (bit_at n 14) (bit_at n 14)).1 refl) refl) in
    let none : (xor b (bit_at n 14) == 0) ≡ true = (Decides-eqb (xor b (bit_at n 14)) 0).1 same in
    rw none (moved_on n)

-- a bit that differs from the first bit of the register
pub shifted_other : (n b : ℕ) → b ≢ bit_at n 14 → register_bits (bit_xor (n * 2 % 65536) 17817) ≡ shifted generator_15 b (register_bits n)
unfolding register_bits
shifted_other n b h =
    let other : (b == bit_at n 14) ≡ false = grind (arith, Decides-eqb) in
    let one : (xor b (bit_at n 14) == 0) ≡ false = rw other refl in
    rw one (sym (subtracted_low 15 (n * 2 % 65536) 17817) ∙ (ap (λ g. subtracted g (low_bits 15 (n * 2 % 65536))) generator_low ∙ ap (subtracted generator_15) (moved_on n)))
