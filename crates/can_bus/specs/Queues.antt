use Rattle.std.specs.Prelude.{ℕ, ◌+◌, ◌-◌, ◌==◌, List, [], ◌∷◌, ◌++◌, length, take, drop, Some, if◌then◌else◌}
use Rattle.can_filter.specs.Passing.{wants}
use Rattle.can_filter.specs.Filters.{CanFilter}
use Rattle.can_filter.specs.declared.options.Options.{Options}
use Rattle.can_event.specs.declared.bus_config.BusConfig.{BusConfig}
use Rattle.can_event.specs.declared.entry.Entry.{Entry}
use Rattle.can_event.specs.declared.event.Event.{Event}
use Rattle.can_event.specs.declared.event.Event.TheVariants.{Receive}
use Rattle.can_event.specs.declared.received.Received.{Received}
use Rattle.can_event.specs.declared.reply.Reply.{Reply}
use Rattle.can_event.specs.declared.reply.Reply.TheVariants as reply
use Rattle.can_bus.specs.Sockets.{is_open, iface_of, capacity_of, filters_of, options_of}
use Rattle.can_bus.specs.Posts.{Post, posts_of, is_own}

-- The receive queues of a bus's sockets, from its history.

-- The posts that pass these filters and options.
abbrev pub passing : List CanFilter → Options → ℕ → List Post → List Received
passing filters options s [] = []
passing filters options s (p ∷ ps) =
    if wants filters options p.received.item (is_own p.sender s) then p.received ∷ passing filters options s ps
    else passing filters options s ps

-- The items that an entry offers to socket s, if it is open: the posts at its interface that pass its current filters
-- and options.
abbrev pub candidates_of : BusConfig → List Entry → ℕ → Event → Reply → List Received
candidates_of c past s e r =
    if is_open past s then passing (filters_of past s) (options_of past s) s (posts_of c past (iface_of past s) e r)
    else []

-- All items offered to socket s, in order.
abbrev pub candidates_for : BusConfig → List Entry → ℕ → List Received
candidates_for c [] s = []
candidates_for c (e ∷ past) s = candidates_for c past s ++ candidates_of c past s e.event e.reply

-- taken_from after one more entry (own choice).
abbrev pub taken_after : Event → Reply → ℕ → List Received → List Received
taken_after (Receive s) (reply.Received (Some r)) k before = if k == s.0 then before ++ r ∷ [] else before
taken_after _ _ k before = before

-- The items that receive calls returned on socket s, in order.
abbrev pub taken_from : List Entry → ℕ → List Received
taken_from [] s = []
taken_from (e ∷ past) s = taken_after e.event e.reply s (taken_from past s)

-- The offered items that found room, in order: as many as fit besides the waiting items.
abbrev pub queued_to : BusConfig → List Entry → ℕ → List Received
queued_to c [] s = []
queued_to c (e ∷ past) s =
    queued_to c past s ++ take
    (capacity_of past s + length (taken_from past s) - length (queued_to c past s))
    (candidates_of c past s e.event e.reply)

-- The offered items that found no room.
abbrev pub dropped_at : BusConfig → List Entry → ℕ → List Received
dropped_at c [] s = []
dropped_at c (e ∷ past) s =
    dropped_at c past s ++ drop
    (capacity_of past s + length (taken_from past s) - length (queued_to c past s))
    (candidates_of c past s e.event e.reply)
