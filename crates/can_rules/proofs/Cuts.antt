use Rattle.std.proofs.Common.{◌≡◌, ℕ, ◌+◌, ◌%◌, ◌/◌, ◌^◌, ◌<◌, ◌≤◌, ◌==◌, zero, suc, Bool, true, false, List, [], ◌∷◌, ◌++◌, length, take, drop, refl, ap, sym, ◌∙◌, arith, append_assoc}
use Rattle.std.specs.Prelude.{decimal}
use Rattle.std.specs.List.{position_or_len, before_first, after_first}
use Rattle.std.proofs.lemmas.Bool.Decides.{nat_tests}
use Rattle.std.proofs.lemmas.Fmt.{decimal_by_steps}
use Rattle.std.proofs.lemmas.List.{take_at, drop_at, length_push, drop_all}
use Rattle.can_frame.specs.FrameText.{digit_of, digits}
use Rattle.can_fault.specs.Scripts.{word, after}

-- Texts that are cut at a byte.

-- The text does not contain this byte.
abbrev pub Lacks : ℕ → List ℕ → Type 0
Lacks c [] = Unit {0}
Lacks c (b ∷ bs) = ((b == c) ≡ false) × Lacks c bs

pub lacks-append : (c : ℕ) (xs ys : List ℕ) → Lacks c xs → Lacks c ys → Lacks c (xs ++ ys)
lacks-append c [] ys h k = k
lacks-append c (x ∷ xs) ys h k = (h.0, lacks-append c xs ys h.1 k)

lacks-push : (c : ℕ) (bs : List ℕ) (b : ℕ) → Lacks c bs → (b == c) ≡ false → Lacks c (bs ++ b ∷ [])
lacks-push c bs b h is = lacks-append c bs (b ∷ []) h (is, tt)

other-byte : (b c : ℕ) → c < b → (b == c) ≡ false
other-byte b c h = grind (arith, nat_tests)

pub lacks-decimal : (c n : ℕ) → c < 48 → n < 2 ^ 64 → Lacks c (decimal n)
lacks-decimal c n low small =
    decimal_by_steps (λ n ds. Lacks c ds)
    (λ n lt. (other-byte (48 + n) c (omega (arith, low)), tt))
    (λ n ds le before. lacks-push c ds (48 + n % 10) before (other-byte (48 + n % 10) c (omega (arith, low))))
    n small

-- Digits are neither spaces nor colons.
no-space : (v : ℕ) → (digit_of v == 32) ≡ false
no-space v = grind (arith, nat_tests)

no-colon : (v : ℕ) → (digit_of v == 58) ≡ false
no-colon v = grind (arith, nat_tests)

lacks-digits : (c base count n : ℕ) → ((v : ℕ) → (digit_of v == c) ≡ false) → Lacks c (digits base count n)
lacks-digits c base zero n none = tt
lacks-digits c base (suc count) n none = lacks-push c (digits base count (n / base)) (digit_of (n % base)) (lacks-digits c base count (n / base) none) (none (n % base))

pub spaceless-digits : (base count n : ℕ) → Lacks 32 (digits base count n)
spaceless-digits base count n = lacks-digits 32 base count n no-space

pub colonless-digits : (base count n : ℕ) → Lacks 58 (digits base count n)
colonless-digits base count n = lacks-digits 58 base count n no-colon

-- The text before the first byte c, and the text after that byte.
byte-at : (c : ℕ) (w rest : List ℕ) → (c == c) ≡ true → Lacks c w → position_or_len (λ b. b == c) (w ++ c ∷ rest) ≡ length w
byte-at c [] rest same h = rw same refl
byte-at c (b ∷ bs) rest same h = rw (h.0, byte-at c bs rest same h.1) (omega arith)

pub front-cut : (c : ℕ) (w rest : List ℕ) → (c == c) ≡ true → Lacks c w → before_first (λ b. b == c) (w ++ c ∷ rest) ≡ w
front-cut c w rest same h = ap (λ (n : ℕ). take n (w ++ c ∷ rest)) (byte-at c w rest same h) ∙ take_at w (c ∷ rest) (length w) refl

pub rest-cut : (c : ℕ) (w rest : List ℕ) → (c == c) ≡ true → Lacks c w → after_first (λ b. b == c) (w ++ c ∷ rest) ≡ rest
rest-cut c w rest same h =
    ap (λ (n : ℕ). drop (n + 1) (w ++ c ∷ rest)) (byte-at c w rest same h)
    ∙ ap (drop (length w + 1)) (sym (append_assoc w (c ∷ []) rest)) ∙ drop_at (w ++ c ∷ []) rest (length w + 1) (length_push w c)

-- A text without byte c is not cut.
none-at : (c : ℕ) (w : List ℕ) → Lacks c w → position_or_len (λ b. b == c) w ≡ length w
none-at c [] h = refl
none-at c (b ∷ bs) h = rw (h.0, none-at c bs h.1) (omega arith)

pub none-cut : (c : ℕ) (w : List ℕ) → Lacks c w → after_first (λ b. b == c) w ≡ []
none-cut c w h = ap (λ (n : ℕ). drop (n + 1) w) (none-at c w h) ∙ drop_all (length w + 1) w (omega arith)

-- The first word of a text, and the text after that word.
pub word-cut : (w rest : List ℕ) → Lacks 32 w → word (w ++ 32 ∷ rest) ≡ w
word-cut w rest h = front-cut 32 w rest refl h

pub after-cut : (w rest : List ℕ) → Lacks 32 w → after (w ++ 32 ∷ rest) ≡ rest
after-cut w rest h = rest-cut 32 w rest refl h
