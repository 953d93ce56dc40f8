use Rattle.std.specs.Prelude.{ℕ, ◌==◌, nat_lt, Bool, List, length, Option, Some, None, if◌then◌else◌}
use denote.Ref.{Bor}
use Rattle.std.specs.Option.{option_map}
use Rattle.std.specs.List.{after_first, before_first, position_or_len}

-- The parts of a BUS argument: the names, and the path of the fault script after the first @ (own choice).

-- the bytes of a path, if a path is given
abbrev pub path_of : Option (Bor (List ℕ)) → Option (List ℕ)
path_of path = option_map (λ text. text.now) path

-- the byte that separates the names of a bus from its script: @
abbrev pub is_at : ℕ → Bool
is_at b = b == 64

-- the names: the part before the first @, or the whole word
abbrev pub names_part : List ℕ → List ℕ
names_part bus = before_first is_at bus

-- the first name in a comma-separated list of names
abbrev pub first_name_of : List ℕ → List ℕ
first_name_of names = before_first (λ b. b == 44) names

-- the path of the script: the part after the first @, if there is one
abbrev pub script_part : List ℕ → Option (List ℕ)
script_part bus = if nat_lt (position_or_len is_at bus) (length bus) then Some (after_first is_at bus) else None
