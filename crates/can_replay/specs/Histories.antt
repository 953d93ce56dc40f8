use Rattle.std.specs.Prelude.{ℕ, List, take, reverse}
use Rattle.can_event.specs.declared.bus_config.BusConfig.{BusConfig}
use Rattle.can_event.specs.declared.entry.Entry.{Entry}
use Rattle.can_event.specs.Events.{IsConfig}
use Rattle.can_record.specs.Journal.{Kept}
use Rattle.can_bus.specs.Legal.{IsLegal}

-- Lists of entries, the oldest first, and their histories, the newest first.

-- The history of the first k entries.
abbrev pub before : List Entry → ℕ → List Entry
before entries k = reverse (take k entries)

-- The record has a legal history (own choice).
abbrev pub HasLegalHistory : Kept → Type 0
HasLegalHistory r = IsLegal r.config r.history

-- A history that a bus can have: the configuration is within the limits, and each reply is the legal one.
pub record IsHistory (c : BusConfig) (past : List Entry) : Type 0 where
  pub proper : IsConfig c
  pub legal : IsLegal c past
