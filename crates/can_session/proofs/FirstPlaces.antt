-- The index of the first occurrence of a byte, as found by a search in blocks.
use Rattle.std.proofs.Common.{◌≡◌, ℕ, false, List, length, get_or, Option, Some, None, arith, ◌==◌}
use Rattle.std.specs.List.{position}
use Rattle.std.proofs.lemmas.List.Sums.{position_or_len_is}
use Rattle.memchr.specs.Find.{IsFirstByte, Passes, is_byte}

not_there : (mark : ℕ) (text : List ℕ) (k : ℕ) → (Passes (is_byte mark) text k → ⊥) → is_byte mark (get_or text k 0) ≡ false
not_there mark text k h = grind (arith, h)

pub placed : (mark : ℕ) (text : List ℕ) (r : Option ℕ) → IsFirstByte (is_byte mark) text r → r ≡ position (λ b. b == mark) text
placed mark text None h =
    let at = position_or_len_is (is_byte mark) text (length text) 0 (omega arith) (λ k lt. not_there mark text k (h k (omega arith) lt)) (λ lt. absurd (omega (arith, lt))) in
    grind (arith, at)
placed mark text (Some k) h =
    let at = position_or_len_is (is_byte mark) text k 0 (omega (arith, h.0.high)) (λ j lt. not_there mark text j (h.0.before j (omega arith) lt)) (λ lt. h.1) in
    grind (arith, at, h.0.high)
