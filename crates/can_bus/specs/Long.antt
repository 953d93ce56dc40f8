use Rattle.std.specs.Prelude.{◌≡◌, ℕ, ◌+◌, ◌-◌, ◌<◌, ◌≤◌, List, length, drop, take, reverse}
use Rattle.can_event.specs.declared.bus_config.BusConfig.{BusConfig}
use Rattle.can_event.specs.declared.entry.Entry.{Entry}
use Rattle.can_event.specs.Events.{IsLongConfig}
use Rattle.can_record.specs.Journal.{Journal}
use Rattle.can_bus.specs.Lean.{record_of}
use Rattle.can_bus.specs.Legal.{IsLegal}
use Rattle.can_bus.specs.State.{Parts, IsKept}

-- The bus of a long run (own choice): its memory holds only its tail, the entries that were not handed out.

-- The configuration, the entries so far (the newest first), the number of entries handed out, and the capacity of the
-- tail.
pub record LongJournal : Type 0 where
  pub config : BusConfig
  pub history : List Entry
  pub handed : ℕ
  pub room : ℕ

-- The journal that others see, as for any other bus.
abbrev pub journal_of : LongJournal → Journal
journal_of j = record { config = j.config; history = j.history }

-- The entries that were not handed out, the oldest first.
abbrev pub held_back : LongJournal → List Entry
held_back j = drop j.handed (reverse j.history)

-- The entries that were handed out, the oldest first.
abbrev pub handed_entries : LongJournal → List Entry
handed_entries j = take j.handed (reverse j.history)

-- The number of entries that the tail still takes.
abbrev pub places_left : LongJournal → ℕ
places_left j = j.handed + j.room - length j.history

-- The tail takes one more entry.
abbrev pub HasPlace : LongJournal → Type 0
HasPlace j = 0 < places_left j

-- The block gets the entries that were not handed out, in order, and now all are handed out. The new tail has memory
-- for this many entries, and nothing else changes.
pub record HandsOut (old : LongJournal) (room : ℕ) (block : List Entry) (new : LongJournal) : Type 0 where
  pub entries : block ≡ held_back old
  pub after : new ≡ record old { handed = length old.history; room = room }

-- Nothing was handed out, and the tail has memory for at least as many entries as before.
pub record KeepsTail (old new : LongJournal) : Type 0 where
  pub handed : new.handed ≡ old.handed
  pub room : old.room ≤ new.room

-- The tail has the entries that were not handed out.
pub record HasTail (history : List Entry) (tail : List Entry) (handed : ℕ) : Type 0 where
  pub counted : handed + length tail ≡ length history
  pub rest : tail ≡ drop handed (reverse history)

-- The parts are the state after the history, and the tail has the entries that were not handed out.
pub record IsLong (c : BusConfig) (history : List Entry) (parts : Parts) (tail : List Entry) (handed : ℕ) : Type 0 where
  pub kept : IsKept (record_of c history) parts
  pub holds : HasTail history tail handed

-- The rest at the end of a run: the last entries of a legal history of a proper configuration.
pub record IsEnd (c : BusConfig) (history : List Entry) (tail : List Entry) (handed : ℕ) : Type 0 where
  pub proper : IsLongConfig c
  pub legal : IsLegal c history
  pub holds : HasTail history tail handed
