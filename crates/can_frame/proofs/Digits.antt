use Rattle.std.proofs.Common.{◌≡◌, ℕ, zero, suc, ◌+◌, ◌/◌, ◌%◌, ◌<◌, ◌≤◌, ◌&&◌, eqb, cond, Bool, true, inl, inr, List, [], ◌∷◌, slice_index, refl, sym, ap, ◌∙◌, arith}
use Rattle.std.proofs.lemmas.Bool.{and_parts, eqb-true, cases_lt}
use Rattle.hex.specs.Hex.{IsBytes, encode_with, upper_digits}
use Rattle.can_frame.specs.FrameText.{digit_of, pairs, payload_text}
use Rattle.can_frame.specs.Frames.Payload.{Remote}
use Rattle.std.specs.Fmt.{decimal}
use Rattle.std.proofs.lemmas.Fmt.{decimal_digit}

-- Hexadecimal digits: the table of the `hex` crate and the table of this crate.

-- two functions have the same values below n
abbrev pub agree : (ℕ → ℕ) → (ℕ → ℕ) → ℕ → Bool
agree f g zero = true
agree f g (suc n) = eqb (f n) (g n) && agree f g n

pub agree-at : (f g : ℕ → ℕ) (n k : ℕ) → agree f g n ≡ true → k < n → f k ≡ g k
agree-at f g zero k h lt = absurd (omega arith)
agree-at f g (suc n) k h lt =
    let parts = and_parts (eqb (f n) (g n)) (agree f g n) h in
    elim (cases_lt k n) [
      | inl below ↦ agree-at f g n k parts.1 below
      | inr top ↦
          let e : k ≡ n = omega arith in
          ap f e ∙ eqb-true (f n) (g n) parts.0 ∙ ap g (sym e)
    ]

upper_digit : (d : ℕ) → d < 16 → slice_index upper_digits d ≡ digit_of d
upper_digit d lt = agree-at (λ k. slice_index upper_digits k) digit_of 16 d refl lt

-- the upper-case text of bytes
pub pairs-upper : (bytes : List ℕ) → IsBytes bytes → pairs bytes ≡ encode_with upper_digits bytes
unfolding encode_with
pairs-upper [] h = refl
pairs-upper (b ∷ bs) h =
    let fits : b < 256 = h 0 in
    let again = pairs-upper bs (λ k. h (suc k)) in
    let high = upper_digit (b / 16) (omega arith) in
    let same : b / 16 % 16 ≡ b / 16 = omega arith in
    let low = upper_digit (b % 16) (omega arith) in
    rw (high, low, same, again) refl

not_zero : (len : ℕ) (rest : List ℕ) → 0 < len → cond (eqb len 0) [] rest ≡ rest
not_zero len rest h = grind arith

-- the text of a request for at least one byte
pub request-text : (len : ℕ) → 0 < len → len ≤ 8 → payload_text (Remote len) ≡ 82 ∷ (48 + len) ∷ []
request-text len some few = ap (λ (t : List ℕ). 82 ∷ t) (not_zero len (decimal len) some ∙ decimal_digit len (omega (arith, few)))
