use Rattle.std.proofs.Common.{◌≡◌, ℕ, ◌<◌, ◌≤◌, false, Option, Some, None, MatchOption, slice_index, refl, arith, ◌∙◌, ap}
use Rattle.can_frame.specs.Numbers.{hex_digit}
use Rattle.can_frame.proofs.Digits.{agree-at}
use Rattle.can_proto.specs.declared.pairs.TheConstants.{DIGITS}
use Rattle.can_proto.specs.Words.{is_blank}
use Rattle.can_proto.proofs.pairs.digit_or_64.Goals as goal

abbrev or_64 : Option ℕ → ℕ
or_64 None = 64
or_64 (Some v) = v

-- each entry of the table is correct
entry : (b : ℕ) → b < 256 → slice_index DIGITS b ≡ or_64 (hex_digit b)
entry b lt = agree-at (λ k. slice_index DIGITS k) (λ k. or_64 (hex_digit k)) 256 b refl lt

small : (b v : ℕ) → hex_digit b ≡ Some v → v < 16
small b v h = grind arith

firm : (b v : ℕ) → hex_digit b ≡ Some v → is_blank b ≡ false
firm b v h = grind arith

value : (b r : ℕ) → r ≡ or_64 (hex_digit b) → MatchOption (hex_digit b) (r ≡ 64) (λ v. (r ≡ v) × (v < 16))
value b r e = by (hex_digit b) refl e
  where
    by : (digit : Option ℕ) → hex_digit b ≡ digit → r ≡ or_64 digit → MatchOption digit (r ≡ 64) (λ v. (r ≡ v) × (v < 16))
    by None is e = e
    by (Some v) is e = (e, small b v is)

solid : (b r : ℕ) → r ≡ or_64 (hex_digit b) → r < 16 → is_blank b ≡ false
solid b r e below = by (hex_digit b) refl e
  where
    by : (digit : Option ℕ) → hex_digit b ≡ digit → r ≡ or_64 digit → is_blank b ≡ false
    by None is e = absurd (omega (arith, e, below))
    by (Some v) is e = firm b v is

below : (b r : ℕ) → r ≡ or_64 (hex_digit b) → r ≤ 64
below b r e = by (hex_digit b) refl e
  where
    by : (digit : Option ℕ) → hex_digit b ≡ digit → r ≡ or_64 digit → r ≤ 64
    by None is e = omega (arith, e)
    by (Some v) is e = omega (arith, e, small b v is)

pub returns : goal.returns
returns c =
    let known : slice_index DIGITS c.from.result ≡ or_64 (hex_digit c.args.byte) = ap (λ (k : ℕ). slice_index DIGITS k) c.from.ensures ∙ entry c.args.byte (omega arith) in
    record { value = value c.args.byte _ known; below = below c.args.byte _ known; solid = solid c.args.byte _ known }
