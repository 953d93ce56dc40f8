use Rattle.std.specs.Prelude.{◌≢◌, All, nat_le, List, [], ◌∷◌, length, if◌then◌else◌}
use Rattle.can_event.specs.declared.bus_config.BusConfig.{BusConfig}
use Rattle.can_event.specs.declared.entry.Entry.{Entry}
use Rattle.can_event.specs.declared.event.Event.{Event}
use Rattle.can_event.specs.declared.reply.Reply.{Reply}
use Rattle.can_event.specs.declared.reply.Reply.TheVariants as reply
use Rattle.can_event.specs.declared.refusal.Refusal.TheVariants as refusal
use Rattle.can_bus.specs.Legal.{legal_reply}

-- The replies to a list of events, in order.

-- No event was refused because memory was lacking (own choice).
abbrev pub HadMemory : List Reply → Type 0
HadMemory replies = All (λ r. r ≢ reply.Refused refusal.NoMemory) replies

-- The reply to an event after these entries: the legal reply, or "record full" if the limit is reached.
abbrev pub reply_after : BusConfig → List Entry → Event → Reply
reply_after c past e = if nat_le c.limit (length past) then reply.Refused refusal.RecordFull else legal_reply c past e

-- The entries after the event: one more, unless the limit is reached.
abbrev pub entries_after : BusConfig → List Entry → Event → List Entry
entries_after c past e =
    if nat_le c.limit (length past) then past else record { event = e; reply = legal_reply c past e } ∷ past

-- The replies to these events, in order, after these entries. The reply to each event depends on all entries before it.
unfoldable pub replies_after : BusConfig → List Entry → List Event → List Reply
replies_after c past [] = []
replies_after c past (e ∷ es) = reply_after c past e ∷ replies_after c (entries_after c past e) es
