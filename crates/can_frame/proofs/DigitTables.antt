use Rattle.std.proofs.Common.{◌+◌, ◌*◌, ◌/◌, ◌%◌, slice_index, refl}
use Rattle.can_frame.specs.FrameText.{digit_of}
use Rattle.can_frame.specs.inner.DigitPairs.{HasPairs}
use Rattle.can_frame.specs.declared.digit_writing.TheConstants.{HEXADECIMAL_PAIRS, DECIMAL_PAIRS}
use Rattle.can_frame.proofs.Digits.{agree-at}

-- The tables of pairs of digits, entry by entry.

pub hexadecimal_pairs : HasPairs 16 HEXADECIMAL_PAIRS
hexadecimal_pairs = record {
  whole = refl;
  high = λ v lt. agree-at (λ k. slice_index HEXADECIMAL_PAIRS (k * 2)) (λ k. digit_of (k / 16)) 256 v refl lt;
  low = λ v lt. agree-at (λ k. slice_index HEXADECIMAL_PAIRS (k * 2 + 1)) (λ k. digit_of (k % 16)) 256 v refl lt;
}

pub decimal_pairs : HasPairs 10 DECIMAL_PAIRS
decimal_pairs = record {
  whole = refl;
  high = λ v lt. agree-at (λ k. slice_index DECIMAL_PAIRS (k * 2)) (λ k. digit_of (k / 10)) 100 v refl lt;
  low = λ v lt. agree-at (λ k. slice_index DECIMAL_PAIRS (k * 2 + 1)) (λ k. digit_of (k % 10)) 100 v refl lt;
}
