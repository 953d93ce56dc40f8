use Rattle.std.specs.Prelude.{ℕ, ◌+◌, ◌*◌, ◌-◌, ◌&&◌, nat_lt, nat_le, if◌then◌else◌}
use Rattle.std.specs.Prelude.{List, [], ◌∷◌, length, Option, Some, None}

-- Numbers in digits of either case (own choice).

-- the value of a hexadecimal digit
abbrev pub hex_digit : ℕ → Option ℕ
hex_digit b =
    if nat_le 48 b && nat_le b 57 then Some (b - 48)
    else if nat_le 65 b && nat_le b 70 then Some (b - 55)
    else if nat_le 97 b && nat_le b 102 then Some (b - 87)
    else None

-- a digit's value if it is a digit of this base
abbrev pub in_base : ℕ → Option ℕ → Option ℕ
in_base base None = None
in_base base (Some v) = if nat_lt v base then Some v else None

-- the value of a digit of a base
abbrev pub digit_in : ℕ → ℕ → Option ℕ
digit_in base b = in_base base (hex_digit b)

-- the value of a number followed by one more digit
abbrev pub one_more : ℕ → ℕ → Option ℕ → Option ℕ
one_more base n None = None
one_more base n (Some v) = Some (n * base + v)

-- the value of a number followed by more digits
abbrev pub number_after : ℕ → Option ℕ → List ℕ → Option ℕ
number_after base None ds = None
number_after base (Some n) [] = Some n
number_after base (Some n) (d ∷ ds) = number_after base (one_more base n (digit_in base d)) ds

-- the value of 1 to `most` digits of a base
abbrev pub number_in : ℕ → ℕ → List ℕ → Option ℕ
number_in base most word =
    if nat_lt 0 (length word) && nat_le (length word) most then number_after base (Some 0) word else None
