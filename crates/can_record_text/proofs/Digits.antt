-- A number that was written can be read again.
use Rattle.std.proofs.Common.{◌≡◌, ℕ, zero, suc, ◌+◌, ◌-◌, ◌*◌, ◌/◌, ◌%◌, ◌^◌, ◌<◌, ◌≤◌, ◌==◌, true, false, not, ◌&&◌, leb, ltb, append_assoc, length-append, List, [], ◌∷◌, ◌++◌, length, take, drop, slice_index, Option, Some, inl, inr, refl, ap, ◌∙◌, arith}
use Rattle.std.specs.Prelude.{decimal}
use Rattle.std.proofs.lemmas.Fmt.{decimal_by_steps, decimal_nonempty, decimal_step, length-decimal-le}
use Rattle.std.proofs.Math.Seq.{get_or-append_seam}
use Rattle.std.proofs.lemmas.List.{length_push, take_at, drop_at}
use Rattle.std.proofs.lemmas.Bool.{cases_lt, le-leb, le-ltb, lt-leb, lt-ltb}
use Rattle.can_frame.specs.FrameText.{digits, digit_of}
use Rattle.can_frame.specs.Moments.{moment_in}
use Rattle.can_frame.specs.Numbers.{digit_in, number_after, number_in, one_more}
use Rattle.can_frame.proofs.Lengths.{seconds_fit}
use Rattle.can_frame.proofs.Numerals.{value-decimal, value-digits}
use Rattle.can_record_text.specs.inner.Words.{is_word}
use Rattle.can_record_text.specs.inner.Numerals.{long_in}
use Rattle.can_record_text.specs.Spelling.{moment_word}

-- ---- numbers

-- a word with few digits spells this number
few_again : (most n : ℕ) (w : List ℕ) → 0 < length w → length w ≤ most → number_after 10 (Some 0) w ≡ Some n → number_in 10 most w ≡ Some n
few_again most n w some few h = rw (lt-ltb 0 (length w) some, le-leb (length w) most few, h) refl

pub number_again : (n : ℕ) → n < 10 ^ 19 → number_in 10 19 (decimal n) ≡ Some n
number_again n lt =
    let small : n < 2 ^ 64 = omega (arith, lt) in
    few_again 19 n (decimal n) (decimal_nonempty n small) (length-decimal-le 19 n (omega arith) lt small) (value-decimal n small)

digit-low : (d : ℕ) → d < 10 → digit_in 10 (48 + d) ≡ Some d
digit-low d lt = grind arith

one_again : (d : ℕ) → d < 10 → number_in 10 1 ((48 + d) ∷ []) ≡ Some d
one_again d lt = ap (λ (o : Option ℕ). number_after 10 (one_more 10 0 o) []) (digit-low d lt) ∙ ap Some (omega arith)

-- the last digit is read separately
long_parts : (n d : ℕ) (ds : List ℕ) → 19 < length (ds ++ (48 + d) ∷ []) → number_in 10 19 ds ≡ Some n → d < 10 → n * 10 + d < 2 ^ 64 → long_in (ds ++ (48 + d) ∷ []) ≡ Some (n * 10 + d)
unfolding long_in
long_parts n d ds over front low lt =
    let whole = ds ++ (48 + d) ∷ [] in
    let last : length ds ≡ length whole - 1 = omega (arith, length_push ds (48 + d)) in
    rw (
      lt-leb (length whole) 19 over,
      take_at ds ((48 + d) ∷ []) (length whole - 1) last,
      drop_at ds ((48 + d) ∷ []) (length whole - 1) last,
      front,
      one_again d low,
      lt-leb (2 ^ 64) (n * 10 + d) lt,
    ) refl

long_short : (n : ℕ) → n < 2 ^ 64 → length (decimal n) ≤ 19 → long_in (decimal n) ≡ Some n
unfolding long_in
long_short n lt le = rw (le-leb (length (decimal n)) 19 le, lt-ltb 0 (length (decimal n)) (decimal_nonempty n lt)) (value-decimal n lt)

long_over : (n : ℕ) → n < 2 ^ 64 → 19 < length (decimal n) → 10 ≤ n → long_in (decimal n) ≡ Some n
long_over n lt over ten =
    let step : decimal n ≡ decimal (n / 10) ++ (48 + n % 10) ∷ [] = decimal_step n ten lt in
    ap long_in step
    ∙ long_parts (n / 10) (n % 10) (decimal (n / 10)) (omega (arith, over, ap length step)) (number_again (n / 10) (omega (arith, lt))) (omega arith) (omega (arith, lt))
    ∙ ap Some (omega arith)

pub long_again : (n : ℕ) → n < 2 ^ 64 → long_in (decimal n) ≡ Some n
long_again n lt =
    elim (cases_lt 19 (length (decimal n))) [
      | inr short ↦ long_short n lt short
      | inl over ↦ elim (cases_lt n 10) [
        | inl one ↦ absurd (omega (arith, over, length-decimal-le 1 n (omega arith) (omega (arith, one)) lt))
        | inr ten ↦ long_over n lt over ten
      ]
    ]

-- ---- words

pub is_word-append : (xs ys : List ℕ) → is_word xs ≡ true → is_word ys ≡ true → is_word (xs ++ ys) ≡ true
is_word-append [] ys h k = k
is_word-append (x ∷ xs) ys h k = elim (leb x 32) as (λ t. (not t && is_word xs) ≡ true → (not t && is_word (xs ++ ys)) ≡ true) [
  | true ↦ λ e. absurd cc
  | false ↦ λ e. is_word-append xs ys e k
] h

is_word-one : (b : ℕ) → 32 < b → is_word (b ∷ []) ≡ true
is_word-one b h = grind arith

pub is_word-decimal : (n : ℕ) → n < 2 ^ 64 → is_word (decimal n) ≡ true
is_word-decimal n lt = decimal_by_steps (λ m ds. is_word ds ≡ true) (λ m small. is_word-one (48 + m) (omega arith)) (λ m ds ten h. is_word-append ds ((48 + m % 10) ∷ []) h (is_word-one (48 + m % 10) (omega arith))) n lt

upper-above : (d : ℕ) → 32 < digit_of d
upper-above d = grind arith

pub is_word-digits : (base k n : ℕ) → is_word (digits base k n) ≡ true
is_word-digits base zero n = refl
is_word-digits base (suc k) n = is_word-append (digits base k (n / base)) (digit_of (n % base) ∷ []) (is_word-digits base k (n / base)) (is_word-one (digit_of (n % base)) (upper-above (n % base)))

pub length-digits : (base k n : ℕ) → length (digits base k n) ≡ k
length-digits base zero n = refl
length-digits base (suc k) n = length_push (digits base k (n / base)) (digit_of (n % base)) ∙ rw (length-digits base k (n / base)) (omega arith)

-- ---- moments

moment_front : (a b : List ℕ) → length b ≡ 6 → take (length (a ++ 46 ∷ b) - 7) (a ++ 46 ∷ b) ≡ a
moment_front a b h = take_at a (46 ∷ b) (length (a ++ 46 ∷ b) - 7) (omega (arith, length-append a (46 ∷ b), h))

moment_back : (a b : List ℕ) → length b ≡ 6 → drop (length (a ++ 46 ∷ b) - 6) (a ++ 46 ∷ b) ≡ b
moment_back a b h = rw (← append_assoc a (46 ∷ []) b) (drop_at (a ++ 46 ∷ []) b (length ((a ++ 46 ∷ []) ++ b) - 6) (omega (arith, length-append (a ++ 46 ∷ []) b, h)))

moment_long : (a b : List ℕ) → length b ≡ 6 → ltb (length (a ++ 46 ∷ b)) 7 ≡ false
moment_long a b h = le-ltb _ _ (omega (arith, length-append a (46 ∷ b), h))

moment_point : (a b : List ℕ) → length b ≡ 6 → (slice_index (a ++ 46 ∷ b) (length (a ++ 46 ∷ b) - 7) == 46) ≡ true
moment_point a b h =
    let at : length (a ++ 46 ∷ b) - 7 ≡ length a = omega (arith, length-append a (46 ∷ b), h) in
    rw (at, get_or-append_seam a 46 b 0) refl

moment_of : (a b : List ℕ) (s u : ℕ) → length b ≡ 6 → number_in 10 10 a ≡ Some s → number_in 10 6 b ≡ Some u → moment_in (a ++ 46 ∷ b) ≡ Some (s * 1000000 + u)
unfolding moment_in
moment_of a b s u six front back = rw (moment_long a b six, moment_point a b six, moment_front a b six, moment_back a b six, front, back) refl

pub moment_again : (m : ℕ) → m < 10 ^ 16 → moment_in (moment_word m) ≡ Some m
unfolding moment_word
moment_again m lt =
    let s = m / 1000000 in
    let u = m % 1000000 in
    let small : s < 2 ^ 64 = omega (arith, lt) in
    let seconds = few_again 10 s (decimal s) (decimal_nonempty s small) (seconds_fit m lt) (value-decimal s small) in
    let micros = value-digits 10 6 u (omega arith) (omega arith) (omega arith) in
    moment_of (decimal s) (digits 10 6 u) s u (length-digits 10 6 u) seconds micros ∙ ap Some (omega arith)

pub is_word-moment : (m : ℕ) → m < 10 ^ 16 → is_word (moment_word m) ≡ true
unfolding moment_word
is_word-moment m lt = is_word-append (decimal (m / 1000000)) (46 ∷ digits 10 6 (m % 1000000)) (is_word-decimal (m / 1000000) (omega (arith, lt))) (is_word-append (46 ∷ []) (digits 10 6 (m % 1000000)) refl (is_word-digits 10 6 (m % 1000000)))
