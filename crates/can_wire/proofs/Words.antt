use Rattle.std.proofs.Common.{◌≡◌, ℕ, zero, suc, ◌+◌, ◌-◌, ◌*◌, ◌/◌, ◌%◌, ◌^◌, ◌<◌, ◌≤◌, min, max, bit_and, bit_or, [], ◌∷◌, ◌++◌, refl, sym, ap, ◌∙◌, arith}
use Rattle.std.specs.Int.{bit_at}
use Rattle.std.proofs.lemmas.Nat.{pow_pos, one_shl, div-add-mod'}
use Rattle.std.proofs.lemmas.Nat.Bits.{bit_at-lt, bit_at-zero, bit_at_and, bit_at_or, bit_at_ones, bit_at_ones_above, bit_at_cat_low, bit_at_cat_high}
use Rattle.can_frame.specs.Arbitration.{low_bits}

-- The lowest bits of numbers, as lists.

-- the first of the lowest bits
pub low_bits_step : (k n : ℕ) → 0 < k → low_bits k n ≡ bit_at n (k - 1) ∷ low_bits (k - 1) n
low_bits_step zero n h = absurd (omega arith)
low_bits_step (suc k) n h = let e : suc k - 1 ≡ k = omega arith in rw e refl

-- the empty list of lowest bits
pub low_bits_none : (k n : ℕ) → k ≡ 0 → low_bits k n ≡ []
low_bits_none zero n h = refl
low_bits_none (suc k) n h = absurd (omega (arith, h))

-- numbers whose lowest bits are equal
pub low_bits_same : (k m n : ℕ) → ((i : ℕ) → i < k → bit_at m i ≡ bit_at n i) → low_bits k m ≡ low_bits k n
low_bits_same zero m n h = refl
low_bits_same (suc k) m n h = rw (h k (omega arith)) (ap (λ l. bit_at n k ∷ l) (low_bits_same k m n (λ i below. h i (omega (arith, below)))))

-- a number after another: the lowest bits of both
pub low_bits_append : (i j m a b : ℕ) → ((k : ℕ) → k < i → bit_at m (k + j) ≡ bit_at a k) → ((k : ℕ) → k < j → bit_at m k ≡ bit_at b k) → low_bits (i + j) m ≡ low_bits i a ++ low_bits j b
low_bits_append zero j m a b high low = let e : 0 + j ≡ j = omega arith in rw e (low_bits_same j m b low)
low_bits_append (suc i) j m a b high low =
    let e : suc i + j ≡ suc (i + j) = omega arith in
    rw e (rw (high i (omega arith)) (ap (λ l. bit_at a i ∷ l) (low_bits_append i j m a b (λ k below. high k (omega (arith, below))) low)))

-- ---- words

-- a bit below the bits that are removed
bit_at_mod : (n w k : ℕ) → k < w → bit_at (n % 2 ^ w) k ≡ bit_at n k
bit_at_mod n w k h = sym (bit_at_cat_low (n / 2 ^ w) w (n % 2 ^ w) k h) ∙ ap (λ m. bit_at m k) (div-add-mod' n (2 ^ w))

-- a number shifted left in a word of w bits
pub moved_high : (n j w k : ℕ) → k + j < w → bit_at (n * 2 ^ j % 2 ^ w) (k + j) ≡ bit_at n k
moved_high n j w k h =
    let none : n * 2 ^ j ≡ n * 2 ^ j + 0 = omega arith in
    let back : k + j - j ≡ k = omega arith in
    bit_at_mod (n * 2 ^ j) w (k + j) h ∙ (ap (λ m. bit_at m (k + j)) none ∙ (bit_at_cat_high n j 0 (k + j) (pow_pos j) (omega arith) ∙ ap (bit_at n) back))

pub moved_low : (n j w k : ℕ) → k < j → k < w → bit_at (n * 2 ^ j % 2 ^ w) k ≡ 0
moved_low n j w k h below =
    let none : n * 2 ^ j ≡ n * 2 ^ j + 0 = omega arith in
    bit_at_mod (n * 2 ^ j) w k below ∙ (ap (λ m. bit_at m k) none ∙ (bit_at_cat_low n j 0 k h ∙ bit_at-zero k))

-- the lowest bits of a number
kept_low : (x j k : ℕ) → k < j → bit_at (bit_and x (2 ^ j - 1)) k ≡ bit_at x k
kept_low x j k h = bit_at_and x (2 ^ j - 1) k ∙ (ap (min (bit_at x k)) (bit_at_ones j k h) ∙ omega (arith, bit_at-lt x k))

kept_high : (x j k : ℕ) → j ≤ k → bit_at (bit_and x (2 ^ j - 1)) k ≡ 0
kept_high x j k h = bit_at_and x (2 ^ j - 1) k ∙ (ap (min (bit_at x k)) (bit_at_ones_above j k h) ∙ omega arith)

-- a word with the lowest bits of a number appended
pub then_bits : (i j n x : ℕ) → i + j ≤ 64 → j ≤ 32 → low_bits (i + j) (bit_or (n * 2 ^ j % 2 ^ 64) (bit_and x (1 * 2 ^ j % 2 ^ 64 - 1))) ≡ low_bits i n ++ low_bits j x
then_bits i j n x room narrow =
    let one : 1 * 2 ^ j % 2 ^ 64 ≡ 2 ^ j = one_shl j 64 (omega arith) in
    let moved : ℕ = n * 2 ^ j % 2 ^ 64 in
    let kept : ℕ = bit_and x (2 ^ j - 1) in
    let word : low_bits (i + j) (bit_or moved kept) ≡ low_bits i n ++ low_bits j x =
    low_bits_append i j (bit_or moved kept) n x
    (λ k below. bit_at_or moved kept (k + j) ∙ (ap (λ m. max m (bit_at kept (k + j))) (moved_high n j 64 k (omega (arith, below))) ∙ (ap (max (bit_at n k)) (kept_high x j (k + j) (omega arith)) ∙ omega arith)))
    (λ k below. bit_at_or moved kept k ∙ (ap (λ m. max m (bit_at kept k)) (moved_low n j 64 k below (omega (arith, below))) ∙ (ap (max 0) (kept_low x j k below) ∙ omega arith))) in
    rw one word
