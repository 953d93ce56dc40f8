use Rattle.std.specs.Prelude.{◌≢◌, ◌==◌, ◌<◌, ◌≡◌, ◌%◌, ◌/◌, ℕ, List, [], ◌∷◌, Option}
use Rattle.std.specs.Prelude.{Some, None, cond, map, length, slice_index_or, ◌≤◌}
use Rattle.std.specs.List.{range_with_len, insert}
use mathlib.Core.Path.{refl}

-- The ranks of the interfaces that hold a key: a rank is the key times 16 plus the interface's number. This is the
-- meaning of a row of ranks. Callers of an arbiter do not need to know it.

-- the key that interface i has in this row
abbrev pub key_in : List ℕ → ℕ → Option ℕ
key_in [] i = None
key_in (rank ∷ ranks) i = cond (rank % 16 == i) (Some (rank / 16)) (key_in ranks i)

-- the key of each interface in this row: place i belongs to interface i
unfoldable pub keys_in : List ℕ → List (Option ℕ)
keys_in ranks = map (key_in ranks) (range_with_len 0 16)

-- there are 16 places
pub length-keys_in : (ranks : List ℕ) → length (keys_in ranks) ≡ 16
unfolding keys_in
length-keys_in ranks = refl

-- the new row has the other ranks with this rank inserted after all lower ranks and before all ranks that are not lower
abbrev pub IsPutAmong : List ℕ → ℕ → List ℕ → Type 0
IsPutAmong others rank ranks =
    (place : ℕ)
    × (place ≤ length others)
    × (ranks ≡ insert others place rank)
    × ((k d : ℕ) → k < place → slice_index_or others k d < rank)
    × ((k d : ℕ) → place ≤ k → k < length others → rank ≤ slice_index_or others k d)

-- this rank is lower than that one, and belongs to another interface
abbrev pub GoesBefore : ℕ → ℕ → Type 0
GoesBefore this that = (this < that) × (this % 16 ≢ that % 16)
