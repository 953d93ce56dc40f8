use Rattle.std.specs.Prelude.{◌≡◌, ℕ, ◌==◌, nat_le, nat_lt, Bool, true, false, ◌||◌, List, length, count_by}
use Rattle.std.specs.Prelude.{Option, Some, None, if◌then◌else◌}
use Rattle.std.specs.Option.{option_map, option_or}
use Rattle.std.specs.List.{AllPass, after_first, before_first, find, list_any, position_or_len}
use Rattle.std.specs.Str.{bytes_eq}
use Rattle.can_frame.specs.Names.{names_in}
use Rattle.canbusd_options.specs.BusWords.{names_part}

-- The words of a bit rate option (own choice): `N` is for all buses, and `NAME=N` is for the bus that has an interface
-- with this name. A bus is given by its names, joined by commas. If no names are given, only words for all buses apply.

-- the byte that separates the name in a word from the number: =
abbrev pub is_equals : ℕ → Bool
is_equals b = b == 61

-- whether a word has a name
abbrev pub is_named : List ℕ → Bool
is_named word = nat_lt (position_or_len is_equals word) (length word)

-- the name in a word, if the word has a name
abbrev pub name_in : List ℕ → Option (List ℕ)
name_in word = if is_named word then Some (before_first is_equals word) else None

-- the number in a word
abbrev pub number_in_word : List ℕ → List ℕ
number_in_word word = if is_named word then after_first is_equals word else word

-- whether a name is in a comma-separated list of names
abbrev pub has_name : List ℕ → List ℕ → Bool
has_name names name = list_any (λ other. bytes_eq other name) (names_in names)

-- whether a word with this name is for the bus with these names; a word without a name is for all buses, given by no
-- names
abbrev pub names_bus : Option (List ℕ) → Option (List ℕ) → Bool
names_bus None None = true
names_bus (Some names) (Some name) = has_name names name
names_bus _ _ = false

-- whether a word is for this bus, or for all buses if no bus is given
abbrev pub is_for : Option (List ℕ) → List ℕ → Bool
is_for bus word = names_bus bus (name_in word)

-- the number that an option gives a bus: from the word for this bus, or else from the word for all buses
abbrev pub number_for : Option (List ℕ) → List (List ℕ) → Option (List ℕ)
number_for bus words = option_map number_in_word (option_or (find (is_for bus) words) (find (is_for None) words))

-- whether at most one of the words is for this bus
abbrev pub is_once : List (List ℕ) → Option (List ℕ) → Bool
is_once words bus = nat_le (count_by (is_for bus) words) 1

-- whether a word is for all buses, or for the bus of one of these BUS arguments
abbrev pub is_known : List (List ℕ) → List ℕ → Bool
is_known buses word = is_for None word || list_any (λ bus. is_for (Some (names_part bus)) word) buses

-- the words fit the buses: each word is for all buses or for one of them, no bus has two words, and at most one word is
-- for all buses
pub record GoWithBuses (buses words : List (List ℕ)) : Type 0 where
  pub known : AllPass (is_known buses) words
  pub once_for_all : is_once words None ≡ true
  pub once_for_each : AllPass (λ bus. is_once words (Some (names_part bus))) buses
