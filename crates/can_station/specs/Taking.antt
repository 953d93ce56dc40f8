use Rattle.std.specs.Prelude.{ℕ}
use Rattle.can_bus.specs.Long.{HasTail}
use Rattle.can_station.specs.Held.{Held, LinesTaken}
use Rattle.can_station.specs.declared.long.Block.{Block}

-- The entries and lines that are taken out of a station (own choice).

-- The block contains the last entries of a history and all lines about the rules, or no lines if an allocation fails.
pub record IsTaken {F : Type 0} (held : Held F) (block : Block) : Type 0 where
  pub entries : HasTail held.journal.history block.entries.entries block.start
  pub after : Held F
  pub changes : LinesTaken held block.changes.items after
