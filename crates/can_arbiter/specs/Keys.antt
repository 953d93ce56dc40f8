use Rattle.std.specs.Prelude.{◌≡◌, ◌≢◌, ℕ, ◌<◌, ◌≤◌, List, Option, Some, None, replicate, slice_get}
use Rattle.std.specs.List.{All}

-- The keys that interfaces hold: place i of the list belongs to interface i, and the lowest key wins.

-- no interface holds a key, on a bus with 16 places
abbrev pub no_keys : List (Option ℕ)
no_keys = replicate 16 None

-- no interface holds a key
abbrev pub IsIdle : List (Option ℕ) → Type 0
IsIdle keys = All (λ held. held ≡ None) keys

-- interface w holds this key, no interface holds a lower key, and no interface below w holds the same key (own choice:
-- if keys are equal, the lower interface wins)
pub record WinsWith (keys : List (Option ℕ)) (w key : ℕ) : Type 0 where
  pub holds : slice_get keys w ≡ Some (Some key)
  pub least : (i other : ℕ) → slice_get keys i ≡ Some (Some other) → key ≤ other
  pub lowest : (i : ℕ) → i < w → slice_get keys i ≢ Some (Some key)

-- interface w wins
abbrev pub IsWinner : List (Option ℕ) → ℕ → Type 0
IsWinner keys w = (key : ℕ) × WinsWith keys w key
