use Rattle.std.specs.Prelude.{◌<◌, ℕ, List, length, take, Option, Result, Ok, Err}
use Rattle.std.specs.Io.KnownBytes.{Appends}

-- Lines that a writer receives.

-- The whole line was written, or after a fault only a front part of it, not the whole line.
abbrev pub LineGoesOut : {A E : Type 0} → Option (List ℕ) → Option (List ℕ) → List ℕ → Result A E → Type 0
LineGoesOut old new line (Ok u) = Appends old new line
LineGoesOut old new line (Err why) = (front : ℕ) × (front < length line) × Appends old new (take front line)
