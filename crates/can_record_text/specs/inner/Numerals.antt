use Rattle.std.specs.Prelude.{ℕ, ◌+◌, ◌-◌, ◌*◌, ◌^◌, nat_le, List, length, take, drop}
use Rattle.std.specs.Prelude.{Option, Some, None, option_and_then, if◌then◌else◌}
use Rattle.can_frame.specs.Numbers.{number_in}

-- Reading long numbers (own choice). The reader spells a number again and compares, so these definitions may accept too
-- much.

-- A number with one more decimal digit, or None from 2 ^ 64 on.
abbrev pub with_digit : ℕ → ℕ → Option ℕ
with_digit n d = if nat_le (2 ^ 64) (n * 10 + d) then None else Some (n * 10 + d)

-- The number that a word spells. If it has more than 19 digits, the last digit is read separately.
unfoldable pub long_in : List ℕ → Option ℕ
long_in w =
    if nat_le (length w) 19 then number_in 10 19 w
    else option_and_then
    (λ n. option_and_then (λ d. with_digit n d) (number_in 10 1 (drop (length w - 1) w)))
    (number_in 10 19 (take (length w - 1) w))
