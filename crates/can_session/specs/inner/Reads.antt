use Rattle.std.specs.Prelude.{◌≡◌, ℕ, List, ◌++◌, length, Option}
use Rattle.std.specs.Io.KnownBytes.{Consumes}

-- The effect of one read on the bytes that a buffer holds (own choice).

-- this many bytes, which the reader still had, are appended to the held bytes
pub record Gains (old new : List ℕ) (before after : Option (List ℕ)) (count : ℕ) : Type 0 where
  pub bytes : List ℕ
  pub counted : length bytes ≡ count
  pub behind : new ≡ old ++ bytes
  pub taken : Consumes before after bytes
