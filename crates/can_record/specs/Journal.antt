use Rattle.std.specs.Prelude.{◌≡◌, ℕ, ◌≤◌, List, ◌∷◌}
use Rattle.can_event.specs.declared.entry.Entry.{Entry}
use Rattle.can_event.specs.declared.bus_config.BusConfig.{BusConfig}

-- The configuration of a bus, and its entries so far, the newest first.
pub record Journal : Type 0 where
  pub config : BusConfig
  pub history : List Entry

-- A journal with the number of entries for which there is memory.
pub record Kept : Type 0 where
  pub config : BusConfig
  pub history : List Entry
  pub room : ℕ

-- The new record has one more entry.
pub record IsLonger (j : Kept) (e : Entry) (new : Kept) : Type 0 where
  pub config : new.config ≡ j.config
  pub history : new.history ≡ e ∷ j.history
  pub room : j.room ≤ new.room
