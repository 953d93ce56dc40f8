use Rattle.std.specs.Prelude.{Bool, true, IsTrue, Option, Some, None, Result, Ok, Err, if◌then◌else◌}
use Rattle.can_event.specs.declared.entry.Entry.{Entry}
use Rattle.can_event.specs.declared.event.Event.{Event}
use Rattle.can_event.specs.declared.received.Received.{Received}
use Rattle.can_event.specs.declared.refusal.Refusal.{Refusal}
use Rattle.can_event.specs.declared.reply.Reply.{Reply}
use Rattle.can_event.specs.declared.reply.Reply.TheVariants as reply
use Rattle.can_event.specs.Spelled.{FitsReply, leaves_entry}

-- The replies that an event can have, the replies that enter the record, and the reply for the result of a call.

-- A reply that a bus can give to the event: one of the event's own kind, or a refusal.
abbrev pub Suits : Event → Reply → Type 0
Suits event (reply.Refused why) = Unit {0}
Suits event r = FitsReply event r

-- The reply enters the record: it is not a refusal for a full record or for lack of memory.
abbrev pub enters : Reply → Bool
enters (reply.Refused why) = leaves_entry why
enters _ = true

-- enters as a statement (own choice).
abbrev pub Enters : Reply → Type 0
Enters r = IsTrue (enters r)

-- An event with its reply (own choice).
abbrev pub entry_of : Event → Reply → Entry
entry_of e r = record { event = e; reply = r }

-- The reply for a result: `f` of its value, or its refusal (own choice).
abbrev pub told : {A : Type 0} → (A → Reply) → Result A Refusal → Reply
told f (Ok a) = f a
told f (Err why) = reply.Refused why

-- The item that a receive call took into this room, if it took one (own choice).
abbrev pub taken_item : Received → Bool → Option Received
taken_item room taken = if taken then Some room else None

-- The result of a receive call into this room, with the item (own choice).
abbrev pub received_into : {E : Type 0} → Received → Result Bool E → Result (Option Received) E
received_into room (Ok taken) = Ok (taken_item room taken)
received_into room (Err why) = Err why

-- The reply to a receive call that took an item into this room, or none (own choice).
abbrev pub taken_reply : Received → Bool → Reply
taken_reply room taken = reply.Received (taken_item room taken)

-- The reply to a receive call with this result: the item in the room, no item, or a refusal (own choice).
abbrev pub receive_reply : Received → Result Bool Refusal → Reply
receive_reply room outcome = told (taken_reply room) outcome

-- A reply that an open call can return (own choice).
abbrev pub IsOpenReply : Reply → Type 0
IsOpenReply (reply.Opened s) = Unit {0}
IsOpenReply (reply.Refused why) = Unit {0}
IsOpenReply _ = ⊥

-- A reply that a close call can return (own choice).
abbrev pub IsCloseReply : Reply → Type 0
IsCloseReply (reply.Closed counts) = Unit {0}
IsCloseReply (reply.Refused why) = Unit {0}
IsCloseReply _ = ⊥

-- A reply that a call without a result can return: Done, or a refusal (own choice).
abbrev pub IsDoneReply : Reply → Type 0
IsDoneReply reply.Done = Unit {0}
IsDoneReply (reply.Refused why) = Unit {0}
IsDoneReply _ = ⊥

-- A reply that a send call can return (own choice).
abbrev pub IsSendReply : Reply → Type 0
IsSendReply (reply.Sent n) = Unit {0}
IsSendReply (reply.Refused why) = Unit {0}
IsSendReply _ = ⊥

-- A reply that a receive call can return (own choice).
abbrev pub IsReceiveReply : Reply → Type 0
IsReceiveReply (reply.Received item) = Unit {0}
IsReceiveReply (reply.Refused why) = Unit {0}
IsReceiveReply _ = ⊥

-- A reply that an attempt can return (own choice).
abbrev pub IsAttemptReply : Reply → Type 0
IsAttemptReply (reply.Attempted a) = Unit {0}
IsAttemptReply (reply.Refused why) = Unit {0}
IsAttemptReply _ = ⊥
