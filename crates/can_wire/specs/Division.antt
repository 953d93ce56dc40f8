use Rattle.std.specs.Prelude.{ℕ, zero, suc, ◌==◌, List, [], ◌∷◌, ◌++◌, length, replicate, if◌then◌else◌}

-- Division of polynomials over two elements, highest coefficient first (Bosch CAN Specification 2.0, section 3.2.1).
-- The CRC sequence is the remainder of the covered bits, followed by zeros, divided by the generator polynomial.

-- the sum of two bits, which is also their difference
abbrev pub xor : ℕ → ℕ → ℕ
xor a b = if a == b then 0 else 1

-- the first polynomial subtracted from the front of the second
abbrev pub subtracted : List ℕ → List ℕ → List ℕ
subtracted [] bits = bits
subtracted (g ∷ gs) [] = []
subtracted (g ∷ gs) (b ∷ bits) = xor b g ∷ subtracted gs bits

-- the remainder of bits after this many steps of long division by a generator, which is given without its leading 1
abbrev pub remainder : List ℕ → ℕ → List ℕ → List ℕ
remainder g zero bits = bits
remainder g (suc n) [] = []
remainder g (suc n) (b ∷ bits) = if b == 0 then remainder g n bits else remainder g n (subtracted g bits)

-- the check sequence of bits: their remainder after as many zeros are appended as the generator has coefficients after
-- the first
unfoldable pub check_of : List ℕ → List ℕ → List ℕ
check_of g bits = remainder g (length bits) (bits ++ replicate (length g) 0)

-- the check sequence from a register that begins with a one instead of zeros: the first bit counts as its opposite (ISO
-- 11898-1:2015, FD frames)
abbrev pub check_from_one : List ℕ → List ℕ → List ℕ
check_from_one g bits = check_of g (subtracted (1 ∷ []) bits)

-- the generator of classic frames, x^15 + x^14 + x^10 + x^8 + x^7 + x^4 + x^3 + 1, without its first term (Bosch,
-- section 3.2.1)
unfoldable pub generator_15 : List ℕ
generator_15 = 1 ∷ 0 ∷ 0 ∷ 0 ∷ 1 ∷ 0 ∷ 1 ∷ 1 ∷ 0 ∷ 0 ∷ 1 ∷ 1 ∷ 0 ∷ 0 ∷ 1 ∷ []

-- the shorter generator of FD frames (ISO 11898-1:2015), x^17 + x^16 + x^14 + x^13 + x^11 + x^6 + x^4 + x^3 + x + 1,
-- without its first term
unfoldable pub generator_17 : List ℕ
generator_17 = 1 ∷ 0 ∷ 1 ∷ 1 ∷ 0 ∷ 1 ∷ 0 ∷ 0 ∷ 0 ∷ 0 ∷ 1 ∷ 0 ∷ 1 ∷ 1 ∷ 0 ∷ 1 ∷ 1 ∷ []

-- the longer generator of FD frames (ISO 11898-1:2015), x^21 + x^20 + x^13 + x^11 + x^7 + x^4 + x^3 + 1, without its
-- first term
unfoldable pub generator_21 : List ℕ
generator_21 = 1 ∷ 0 ∷ 0 ∷ 0 ∷ 0 ∷ 0 ∷ 0 ∷ 1 ∷ 0 ∷ 1 ∷ 0 ∷ 0 ∷ 0 ∷ 1 ∷ 0 ∷ 0 ∷ 1 ∷ 1 ∷ 0 ∷ 0 ∷ 1 ∷ []
