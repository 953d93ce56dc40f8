use Rattle.std.specs.Prelude.{◌≡◌, ◌<◌, ◌+◌, ◌*◌, ◌/◌, ◌%◌, ℕ, List, length, slice_index}
use Rattle.can_frame.specs.FrameText.{digit_of}

-- Tables of digits (own choice).

-- a table has the two digits of each number below the square of a base
pub record HasPairs (base : ℕ) (table : List ℕ) : Type 0 where
  pub whole : length table ≡ base * base * 2
  pub high : (v : ℕ) → v < base * base → slice_index table (v * 2) ≡ digit_of (v / base)
  pub low : (v : ℕ) → v < base * base → slice_index table (v * 2 + 1) ≡ digit_of (v % base)
