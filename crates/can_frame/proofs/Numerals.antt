use Rattle.std.proofs.Common.{◌≡◌, ℕ, zero, suc, ◌+◌, ◌*◌, ◌/◌, ◌%◌, ◌^◌, ◌<◌, ◌≤◌, List, [], ◌∷◌, ◌++◌, Option, Some, None, refl, sym, ap, ◌∙◌, arith}
use Rattle.std.specs.Fmt.{decimal}
use Rattle.std.proofs.lemmas.Fmt.{decimal_by_steps}
use Rattle.can_frame.specs.FrameText.{digit_of, digits}
use Rattle.can_frame.specs.Numbers.{digit_in, number_after, one_more}

-- Reading digits that were written gives the number back.

-- the number without its last digits
abbrev pub left : ℕ → ℕ → ℕ → ℕ
left base zero n = n
left base (suc count) n = left base count (n / base)

pub digit-again : (base v : ℕ) → base ≤ 16 → v < base → digit_in base (digit_of v) ≡ Some v
digit-again base v h lt = grind arith

-- an optional number followed by one more digit
abbrev more : ℕ → Option ℕ → Option ℕ → Option ℕ
more base None digit = None
more base (Some n) digit = one_more base n digit

after-nothing : (base : ℕ) (o : Option ℕ) → number_after base o [] ≡ o
after-nothing base None = refl
after-nothing base (Some n) = refl

after-push : (base : ℕ) (ds : List ℕ) (d : ℕ) (o : Option ℕ) → number_after base o (ds ++ d ∷ []) ≡ more base (number_after base o ds) (digit_in base d)
after-push base [] d None = refl
after-push base (x ∷ xs) d None = refl
after-push base [] d (Some n) = after-nothing base (one_more base n (digit_in base d))
after-push base (x ∷ xs) d (Some n) = after-push base xs d (one_more base n (digit_in base x))

pub value-digits : (base count n : ℕ) → 0 < base → base ≤ 16 → left base count n ≡ 0 → number_after base (Some 0) (digits base count n) ≡ Some n
value-digits base zero n pos h e = ap (λ (k : ℕ). Some k) (sym e)
value-digits base (suc count) n pos h e =
    let again = value-digits base count (n / base) pos h e in
    let last = digit-again base (n % base) h (omega arith) in
    let whole : n / base * base + n % base ≡ n = omega arith in
    after-push base (digits base count (n / base)) (digit_of (n % base)) (Some 0) ∙ rw (again, last) (ap (λ (k : ℕ). Some k) whole)

pub same-digits : (base count m n : ℕ) → 0 < base → base ≤ 16 → left base count m ≡ 0 → left base count n ≡ 0 → digits base count m ≡ digits base count n → m ≡ n
same-digits base count m n pos h hm hn e =
    let same : Some m ≡ Some n = sym (value-digits base count m pos h hm) ∙ ap (number_after base (Some 0)) e ∙ value-digits base count n pos h hn in
    cc

pub value-decimal : (n : ℕ) → n < 2 ^ 64 → number_after 10 (Some 0) (decimal n) ≡ Some n
value-decimal n small =
    decimal_by_steps (λ n ds. number_after 10 (Some 0) ds ≡ Some n)
    (λ n lt. one-digit n lt)
    (λ n ds le before. next-digit n ds before)
    n small
  where
    glyph : (v : ℕ) → v < 10 → digit_in 10 (48 + v) ≡ Some v
    glyph v lt = grind arith

    one-digit : (n : ℕ) → n < 10 → number_after 10 (Some 0) ((48 + n) ∷ []) ≡ Some n
    one-digit n lt = after-push 10 [] (48 + n) (Some 0) ∙ rw (glyph n lt) (ap (λ (k : ℕ). Some k) (omega arith))

    next-digit : (n : ℕ) (ds : List ℕ) → number_after 10 (Some 0) ds ≡ Some (n / 10) → number_after 10 (Some 0) (ds ++ (48 + n % 10) ∷ []) ≡ Some n
    next-digit n ds before = after-push 10 ds (48 + n % 10) (Some 0) ∙ rw (before, glyph (n % 10) (omega arith)) (ap (λ (k : ℕ). Some k) (omega arith))
