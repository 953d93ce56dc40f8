use Rattle.std.specs.Prelude.{List, [], ◌∷◌}
use Rattle.can_event.specs.Replies.{entry_of}
use Rattle.can_event.specs.declared.entry.Entry.{Entry}
use Rattle.can_record.specs.PackedEntry.{receive_entry, send_entry}
use Rattle.can_bus.specs.declared.history.Chain.{Chain, Empty, Answered', Received', Sent'}

-- A history that only contracts see.

-- The entries of a chain, the newest first.
abbrev pub entries_of : Chain → List Entry
entries_of Empty = []
entries_of (Answered' shape before event reply) = entry_of event.value reply.value ∷ entries_of before
entries_of (Received' shape before id outcome room) =
    receive_entry id.value room.value outcome.value ∷ entries_of before
entries_of (Sent' shape before id frame outcome) =
    send_entry id.value frame.value outcome.value ∷ entries_of before
