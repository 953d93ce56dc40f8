use Rattle.std.proofs.Common.{◌≡◌, ℕ, zero, suc, ◌+◌, ◌*◌, ◌/◌, ◌%◌, ◌^◌, ◌<◌, ◌≤◌, List, [], ◌∷◌, ◌++◌, length, refl, ap, ◌∙◌, arith, append_assoc, length-append}
use Rattle.std.specs.Fmt.{decimal}
use Rattle.std.proofs.Math.Nat.{pow-le-pow_right, pow-suc, pow-succ', div-div-eq-div-mul}
use Rattle.std.proofs.Math.Arith.{mod-mul}
use Rattle.std.proofs.lemmas.Fmt.{decimal_digit, decimal_step}
use Rattle.std.proofs.lemmas.List.{append-nil}
use Rattle.can_frame.specs.FrameText.{digit_of, digits}

-- Numbers in decimal, written with a given number of digits.

glyph : (v : ℕ) → v < 10 → digit_of v ≡ 48 + v
glyph v lt = grind arith

pub one_digit : (n : ℕ) → n < 10 → decimal n ≡ digits 10 1 n
one_digit n lt =
    let whole : n % 10 ≡ n = omega arith in
    decimal_digit n lt ∙ rw (whole, glyph n lt) refl

-- a number with one more digit
next_digit : (count n : ℕ) → 10 ≤ n → n < 2 ^ 64 → decimal (n / 10) ≡ digits 10 count (n / 10) → decimal n ≡ digits 10 (suc count) n
next_digit count n lo hi before = decimal_step n lo hi ∙ rw (before, glyph (n % 10) (omega arith)) refl

pub two_digits : (n : ℕ) → 10 ≤ n → n < 100 → decimal n ≡ digits 10 2 n
two_digits n lo hi = next_digit 1 n lo (omega (arith, hi)) (one_digit (n / 10) (omega (arith, hi)))

pub three_digits : (n : ℕ) → 100 ≤ n → n < 1000 → decimal n ≡ digits 10 3 n
three_digits n lo hi = next_digit 2 n (omega (arith, lo)) (omega (arith, hi)) (two_digits (n / 10) (omega (arith, lo)) (omega (arith, hi)))

pub four_digits : (n : ℕ) → 1000 ≤ n → n < 10000 → decimal n ≡ digits 10 4 n
four_digits n lo hi = next_digit 3 n (omega (arith, lo)) (omega (arith, hi)) (three_digits (n / 10) (omega (arith, lo)) (omega (arith, hi)))

-- splitting off one more of the last digits
next_apart : (count n front rest : ℕ) → 10 ≤ n → n < 2 ^ 64 → n % 10 ≡ rest % 10 → decimal (n / 10) ≡ decimal front ++ digits 10 count (rest / 10) → decimal n ≡ decimal front ++ digits 10 (suc count) rest
next_apart count n front rest lo hi same before =
    decimal_step n lo hi ∙ rw (before, same, glyph (rest % 10) (omega arith)) (append_assoc (decimal front) (digits 10 count (rest / 10)) ((48 + rest % 10) ∷ []))

power_pos : (k : ℕ) → 1 ≤ 10 ^ k
power_pos k =
    let some : zero < 10 = omega arith in
    let more : zero ≤ k = omega arith in
    pow-le-pow_right {n = 10} some more

-- the last digits can be split off from the rest
apart : (k n : ℕ) → 10 ^ k ≤ n → n < 2 ^ 64 → decimal n ≡ decimal (n / 10 ^ k) ++ digits 10 k (n % 10 ^ k)
apart zero n lo hi =
    let whole : n / 10 ^ 0 ≡ n = omega arith in
    rw (whole, append-nil) refl
apart (suc k) n lo hi =
    let some : 1 ≤ 10 ^ k = power_pos k in
    let lower : 10 ^ k * 10 ≤ n = rw (pow-suc 10 k) at lo in
    let front : n / 10 / 10 ^ k ≡ n / 10 ^ suc k = rw (pow-succ' 10 k) (div-div-eq-div-mul n 10 (10 ^ k)) in
    let rest : n % 10 ^ suc k ≡ n / 10 % 10 ^ k * 10 + n % 10 = rw (pow-suc 10 k) (mod-mul n {m = 10 ^ k} {c = 10} some (omega arith)) in
    let shorter : n % 10 ^ suc k / 10 ≡ n / 10 % 10 ^ k = omega arith in
    next_apart k n (n / 10 ^ suc k) (n % 10 ^ suc k) (omega arith) hi (omega arith) (rw (← front, shorter) (apart k (n / 10) (omega arith) (omega arith)))

pushed : (k : ℕ) (before : List ℕ) (n : ℕ) → 10 ^ k ≤ n → n < 2 ^ 64 → (before ++ decimal (n / 10 ^ k)) ++ digits 10 k (n % 10 ^ k) ≡ before ++ decimal n
pushed k before n lo hi = rw (apart k n lo hi) (append_assoc before (decimal (n / 10 ^ k)) (digits 10 k (n % 10 ^ k)))

pub four_pushed : (before : List ℕ) (n : ℕ) → 10 ^ 4 ≤ n → n < 2 ^ 64 → (before ++ decimal (n / 10 ^ 4)) ++ digits 10 4 (n % 10 ^ 4) ≡ before ++ decimal n
four_pushed before n lo hi = pushed 4 before n lo hi

pub four_longer : (n : ℕ) → 10 ^ 4 ≤ n → n < 2 ^ 64 → length (decimal n) ≡ length (decimal (n / 10 ^ 4)) + 4
four_longer n lo hi = ap length (apart 4 n lo hi) ∙ length-append (decimal (n / 10 ^ 4)) (digits 10 4 (n % 10 ^ 4))

pub eight_pushed : (before : List ℕ) (n : ℕ) → 10 ^ 8 ≤ n → n < 2 ^ 64 → (before ++ decimal (n / 10 ^ 8)) ++ digits 10 8 (n % 10 ^ 8) ≡ before ++ decimal n
eight_pushed before n lo hi = pushed 8 before n lo hi

pub eight_longer : (n : ℕ) → 10 ^ 8 ≤ n → n < 2 ^ 64 → length (decimal n) ≡ length (decimal (n / 10 ^ 8)) + 8
eight_longer n lo hi = ap length (apart 8 n lo hi) ∙ length-append (decimal (n / 10 ^ 8)) (digits 10 8 (n % 10 ^ 8))

pub sixteen_pushed : (before : List ℕ) (n : ℕ) → 10 ^ 16 ≤ n → n < 2 ^ 64 → (before ++ decimal (n / 10 ^ 16)) ++ digits 10 16 (n % 10 ^ 16) ≡ before ++ decimal n
sixteen_pushed before n lo hi = pushed 16 before n lo hi

pub sixteen_longer : (n : ℕ) → 10 ^ 16 ≤ n → n < 2 ^ 64 → length (decimal n) ≡ length (decimal (n / 10 ^ 16)) + 16
sixteen_longer n lo hi = ap length (apart 16 n lo hi) ∙ length-append (decimal (n / 10 ^ 16)) (digits 10 16 (n % 10 ^ 16))
