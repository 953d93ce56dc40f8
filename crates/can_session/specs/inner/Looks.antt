use Rattle.std.specs.Prelude.{◌≡◌, ℕ, ◌+◌, ◌<◌, List, [], ◌∷◌, ◌++◌, take, length}
use Rattle.can_session.specs.Lines.{IsInputLine, BeginsTooLong}
use Rattle.can_session.specs.declared.lines.LineSearch.{LineSearch}
use Rattle.can_session.specs.declared.lines.LineSearch.TheVariants.{Line, Long, Begun}

-- The result of one search for a line in the held bytes (own choice).

-- the held bytes begin with a line of this many bytes and its LF
pub record LineAt (held : List ℕ) (len : ℕ) : Type 0 where
  pub line : IsInputLine (take len held)
  pub ended : take (len + 1) held ≡ take len held ++ 10 ∷ []
  pub within : len < length held

-- the held bytes agree with the result of the search
abbrev pub Shows : List ℕ → LineSearch → Type 0
Shows held (Line len) = LineAt held len
Shows held Long = BeginsTooLong held
Shows held Begun = IsInputLine held
