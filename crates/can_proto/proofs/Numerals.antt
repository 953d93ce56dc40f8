use Rattle.std.proofs.Common.{◌≡◌, ℕ, zero, suc, ◌+◌, ◌/◌, ◌%◌, ◌^◌, ◌<◌, ◌≤◌, Bool, true, false, List, [], ◌∷◌, refl, arith}
use Rattle.std.specs.Fmt.{decimal}
use Rattle.std.proofs.lemmas.Fmt.{decimal_by_steps}
use Rattle.can_frame.specs.FrameText.{digit_of, digits, pairs}
use Rattle.can_proto.proofs.Cuts.{clear, clear-append, clear-one}

-- Digits contain no mark.

-- a mark is not a digit
abbrev pub IsMark : (ℕ → Bool) → Type 0
IsMark mark = (d : ℕ) → 48 ≤ d → mark d ≡ false

high : (v : ℕ) → 48 ≤ digit_of v
high v = grind arith

pub clear-digits : (mark : ℕ → Bool) → IsMark mark → (base count n : ℕ) → clear mark (digits base count n) ≡ true
clear-digits mark h base zero n = refl
clear-digits mark h base (suc count) n =
    clear-append mark (digits base count (n / base)) (digit_of (n % base) ∷ []) (clear-digits mark h base count (n / base)) (clear-one mark (digit_of (n % base)) (h (digit_of (n % base)) (high (n % base))))

pub clear-pairs : (mark : ℕ → Bool) → IsMark mark → (bytes : List ℕ) → clear mark (pairs bytes) ≡ true
clear-pairs mark h [] = refl
clear-pairs mark h (b ∷ bs) = clear-append mark (digits 16 2 b) (pairs bs) (clear-digits mark h 16 2 b) (clear-pairs mark h bs)

pub clear-decimal : (mark : ℕ → Bool) → IsMark mark → (n : ℕ) → n < 2 ^ 64 → clear mark (decimal n) ≡ true
clear-decimal mark h n small =
    decimal_by_steps (λ n ds. clear mark ds ≡ true)
    (λ n lt. clear-one mark (48 + n) (h (48 + n) (omega arith)))
    (λ n ds le before. clear-append mark ds ((48 + n % 10) ∷ []) before (clear-one mark (48 + n % 10) (h (48 + n % 10) (omega arith))))
    n small
