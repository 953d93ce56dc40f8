use Rattle.std.specs.Prelude.{ℕ, ◌≡◌, ◌+◌, ◌≤◌, ◌≢◌, Bool, ◌&&◌, ◌||◌, ◌==◌, nat_le}
use Rattle.std.specs.Prelude.{List, length, take, sum_by, Option, codes, slice_index}
use Rattle.std.specs.Char.{is_ascii_alphanumeric}
use Rattle.std.specs.List.{slice_split, list_any, list_all, AllPass, AllPairs, position}
use Rattle.std.specs.Str.{bytes_eq}

-- The names of a bus's interfaces: a text of names joined by commas (own choice).

-- the pieces of a text between its commas
abbrev pub names_in : List ℕ → List (List ℕ)
names_in text = slice_split (λ b. b == 44) text

-- a byte that a name may hold: an ASCII letter or digit, `_`, `-` or `.`
abbrev pub is_name_byte : ℕ → Bool
is_name_byte b = is_ascii_alphanumeric b || list_any (λ mark. b == mark) (codes "_-.")

-- 1 to 15 bytes that a name may hold (a Linux interface's name has at most 15: IFNAMSIZ of linux/if.h)
abbrev pub is_name : List ℕ → Bool
is_name name = nat_le 1 (length name) && nat_le (length name) 15 && list_all is_name_byte name

-- 1 to 16 names, no two alike
pub record AreNames (names : List (List ℕ)) : Type 0 where
  pub some : 1 ≤ length names
  pub few : length names ≤ 16
  pub good : AllPass is_name names
  pub distinct : AllPairs ◌≢◌ names

-- the place in the text where a name begins: after the names before it and their commas
abbrev pub start_of : List (List ℕ) → ℕ → ℕ
start_of names place = sum_by (λ name. length name + 1) (take place names)

-- the values stored together with the text: the number of names, the start of each name, and the start of one more name
pub record AreKept (names : List (List ℕ)) (count : ℕ) (starts : List ℕ) : Type 0 where
  pub good : AreNames names
  pub all : count ≡ length names
  pub places : (k : ℕ) → k ≤ length names → slice_index starts k ≡ start_of names k

-- the first place of a name among names
abbrev pub place_of : List (List ℕ) → List ℕ → Option ℕ
place_of names name = position (λ other. bytes_eq other name) names
