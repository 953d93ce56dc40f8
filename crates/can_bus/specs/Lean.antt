use Rattle.std.specs.Prelude.{◌≡◌, ℕ, ◌<◌, List, length}
use Rattle.can_event.specs.declared.bus_config.BusConfig.{BusConfig}
use Rattle.can_event.specs.declared.entry.Entry.{Entry}
use Rattle.can_event.specs.declared.event.Event.{Event}
use Rattle.can_event.specs.declared.reply.Reply.{Reply}
use Rattle.can_record.specs.Journal.{Kept}
use Rattle.can_bus.specs.Run.{IsAnswer, history_after}
use Rattle.can_bus.specs.State.{Parts, IsKept}

-- A bus that keeps no record (own choice).

-- The configuration, the number of entries, and the state after them.
pub record Lean : Type 0 where
  pub config : BusConfig
  pub count : ℕ
  pub parts : Parts

-- The record that a bus would keep of these entries, with room for all later ones.
abbrev pub record_of : BusConfig → List Entry → Kept
record_of c past = record { config = c; history = past; room = c.limit }

-- These entries, the newest first, are a legal history, and the bus has the state after them.
pub record IsAfter (b : Lean) (past : List Entry) : Type 0 where
  pub kept : IsKept (record_of b.config past) b.parts
  pub count : b.count ≡ length past

-- Some legal history results in this bus.
pub record IsLegalLean (b : Lean) : Type 0 where
  pub past : List Entry
  pub is_after : IsAfter b past

-- Some history results in these parts, and one more entry is allowed.
pub record IsReady (c : BusConfig) (parts : Parts) : Type 0 where
  pub past : List Entry
  pub kept : IsKept (record_of c past) parts
  pub room : length past < c.limit

-- The event has this reply, and the bus has this state after it.
pub record Carries (c : BusConfig) (past : List Entry) (e : Event) (r : Reply) (parts : Parts) : Type 0 where
  pub answer : IsAnswer c past e r
  pub after : IsKept (record_of c (history_after e r past)) parts
