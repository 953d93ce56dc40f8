use Rattle.std.specs.Prelude.{ℕ, ◌+◌, ◌-◌, ◌*◌, ◌/◌, ◌%◌, ◌==◌, nat_lt, if◌then◌else◌, List, ◌∷◌, ◌++◌, length}
use Rattle.std.specs.Prelude.{take, drop, slice_index, not, decimal, Option, Some, None, option_and_then}
use Rattle.can_frame.specs.FrameText.{digits}
use Rattle.can_frame.specs.Numbers.{number_in}

-- a moment as socketcand and candump write it: seconds without leading zeros, a point (46) and six digits of
-- microseconds
abbrev pub moment_text : ℕ → List ℕ
moment_text micros = decimal (micros / 1000000) ++ 46 ∷ digits 10 6 (micros % 1000000)

-- the moment, in microseconds, of 1 to 10 digits of seconds, a point (46) and 6 digits of microseconds, as socketcand
-- and candump write it
unfoldable pub moment_in : List ℕ → Option ℕ
moment_in word =
    if nat_lt (length word) 7 then None
    else if not (slice_index word (length word - 7) == 46) then None
    else option_and_then
    (λ s. option_and_then (λ u. Some (s * 1000000 + u)) (number_in 10 6 (drop (length word - 6) word)))
    (number_in 10 10 (take (length word - 7) word))
