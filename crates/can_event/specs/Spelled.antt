use Rattle.std.specs.Prelude.{Bool, true, false, IsTrue, ◌≡◌, ℕ, List, Option, Some, None, All}
use Rattle.can_frame.specs.Frames.{is_fd}
use Rattle.can_frame.specs.Sets.{no_ifaces}
use Rattle.can_frame.specs.declared.item.Item.{Item}
use Rattle.can_frame.specs.declared.item.Item.TheVariants as item
use Rattle.can_event.specs.declared.bus_config.BusConfig.{BusConfig}
use Rattle.can_event.specs.declared.entry.Entry.{Entry}
use Rattle.can_event.specs.declared.event.Event.{Event}
use Rattle.can_event.specs.declared.event.Event.TheVariants.{Open, Close, SetFilters, SetOption}
use Rattle.can_event.specs.declared.event.Event.TheVariants.{Send, Receive, Attempt, Restart, Down}
use Rattle.can_event.specs.declared.received.Received.{Received}
use Rattle.can_event.specs.declared.refusal.Refusal.{Refusal}
use Rattle.can_event.specs.declared.refusal.Refusal.TheVariants as refusal
use Rattle.can_event.specs.declared.reply.Reply.{Reply}
use Rattle.can_event.specs.declared.attempt.Attempt.TheVariants as attempt
use Rattle.can_event.specs.declared.reply.Reply.TheVariants as reply
use Rattle.can_event.specs.Events.{IsConfig, restarted_in}

-- The entries that have a line in the text of a record.

-- The refusal leaves an entry: every refusal except RecordFull and NoMemory (own choice).
abbrev pub leaves_entry : Refusal → Bool
leaves_entry refusal.RecordFull = false
leaves_entry refusal.NoMemory = false
leaves_entry _ = true

-- leaves_entry as a statement (own choice).
abbrev pub LeavesEntry : Refusal → Type 0
LeavesEntry why = IsTrue (leaves_entry why)

-- The event asks to send an FD frame.
abbrev pub SendsFd : Event → Type 0
SendsFd (Send s frame) = IsTrue (is_fd frame.payload)
SendsFd _ = ⊥

-- The refusal leaves an entry and can be the reply to this event: only a send of an FD frame is refused as FdOff (own
-- choice).
abbrev pub MayRefuse : Event → Refusal → Type 0
MayRefuse event refusal.FdOff = SendsFd event
MayRefuse event why = LeavesEntry why

-- The number of a received item: an error message frame has the number 0 (own choice).
abbrev pub IsNumberOf : Item → ℕ → Type 0
IsNumberOf (item.Data frame) n = Unit {0}
IsNumberOf (item.Error message) n = n ≡ 0

-- A received item has a valid number.
abbrev pub IsNumbered : Received → Type 0
IsNumbered r = IsNumberOf r.item r.number

-- The item that a receive call returned has a valid number, if there is one.
abbrev pub AreNumbered : Option Received → Type 0
AreNumbered None = Unit {0}
AreNumbered (Some r) = IsNumbered r

-- The reply is of the event's own kind, or a refusal; a frame was tried at the moment of its attempt (own choice).
abbrev pub FitsReply : Event → Reply → Type 0
FitsReply event (reply.Refused why) = MayRefuse event why
FitsReply (Open i capacity) (reply.Opened s) = Unit {0}
FitsReply (Close s) (reply.Closed counts) = Unit {0}
FitsReply (SetFilters s filters) reply.Done = Unit {0}
FitsReply (SetOption s option) reply.Done = Unit {0}
FitsReply (Send s frame) (reply.Sent n) = Unit {0}
FitsReply (Receive s) (reply.Received item) = AreNumbered item
FitsReply (Attempt m v) (reply.Attempted (attempt.Idle restarted)) = Unit {0}
FitsReply (Attempt m v) (reply.Attempted (attempt.Tried t)) = t.moment ≡ m
FitsReply (Restart i m) reply.Done = Unit {0}
FitsReply (Down i m) reply.Done = Unit {0}
FitsReply _ _ = ⊥

-- Attempts restart interfaces only on a bus with automatic restart (own choice).
abbrev pub MayRestart : BusConfig → Reply → Type 0
MayRestart c r = c.auto_restart ≡ 0 → restarted_in r ≡ no_ifaces

-- An entry that has a line: its reply fits its event, and restarts no interface on a bus without automatic restart.
pub record IsSpelled (c : BusConfig) (e : Entry) : Type 0 where
  pub fits : FitsReply e.event e.reply
  pub restarts : MayRestart c e.reply

-- The parts of a record: a configuration within the limits of a bus, and entries that each have a line.
pub record IsRecord (c : BusConfig) (entries : List Entry) : Type 0 where
  pub proper : IsConfig c
  pub spelled : All (IsSpelled c) entries
