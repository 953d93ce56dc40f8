use Rattle.std.specs.Prelude.{ℕ, List}
use Rattle.can_event.specs.declared.entry.Entry.{Entry}
use Rattle.can_event.specs.declared.bus_config.BusConfig.{BusConfig}
use Rattle.can_bus.specs.Legal.{IsLegal}
use Rattle.can_bus.specs.Long.{HasTail}

-- The entries that a scribe gives to a keeper (own choice).

-- these are the last entries of a legal history
abbrev pub AreLegalLast : List Entry → Type 0
AreLegalLast entries = (c : BusConfig) × (past : List Entry) × (start : ℕ) × IsLegal c past × HasTail past entries start
