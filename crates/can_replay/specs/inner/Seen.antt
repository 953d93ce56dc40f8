use Rattle.std.specs.Prelude.{◌≡◌, ℕ, ◌-◌, List, [], ◌∷◌, ◌++◌, codes, length, map, drop}
use Rattle.std.specs.Prelude.{get_or, slice_get, slice_index_or, Option, Some, None}
use Rattle.std.specs.List.{flat_map, range_with_len}
use Rattle.can_confine.specs.Confinement.{ErrorCounts, at_start}
use Rattle.can_event.specs.declared.bus_config.BusConfig.{BusConfig}
use Rattle.can_event.specs.declared.entry.Entry.{Entry}
use Rattle.can_event.specs.declared.received.Received.{Received}
use Rattle.can_event.specs.declared.reply.Closed.{Closed}
use Rattle.can_bus.specs.Legal.{counts_at_close}
use Rattle.can_bus.specs.Sockets.{open_sockets}
use Rattle.can_bus.specs.State.{InterfaceState, SocketState, Parts}
use Rattle.can_bus.specs.Stats.{all_counts, lost_of}
use Rattle.can_bus.specs.Transmit.{lost_count}
use Rattle.can_replay.specs.EventsText.{put_words}
use Rattle.can_replay.specs.Words.{counts_part, lost_part, part_named, dropped_words}

-- The state of a bus that is stored before an entry. The effects of the entry are computed from this state and the
-- state after the entry.

-- The error counts of the 16 possible interfaces, the number of lost frames of each interface, and how many items are
-- waiting and were dropped at each open socket.
pub record Seen : Type 0 where
  pub counters : List ErrorCounts
  pub lost : List ℕ
  pub sockets : List Closed

-- How many items of a socket are waiting and were dropped in this state.
abbrev pub counts_in : SocketState → Closed
counts_in v = record { unread = length v.waiting; dropped = v.dropped }

-- The part of a bus's state that is stored.
abbrev pub seen_in : Parts → Seen
seen_in parts = record {
  counters = parts.nodes.counters;
  lost = map lost_of parts.interfaces;
  sockets = map counts_in parts.sockets;
}

-- The state that is stored after a history.
unfoldable pub seen_after : BusConfig → List Entry → Seen
seen_after c past = record {
  counters = all_counts c past;
  lost = map (lost_count past) (range_with_len 0 c.ifaces);
  sockets = map (counts_at_close c past) (open_sockets past);
}

-- This is the state that is stored after the history.
abbrev pub HasSeen : BusConfig → List Entry → Seen → Type 0
HasSeen c past seen = seen ≡ seen_after c past

-- The error counts at index i, or the initial counts if there is no such index.
abbrev pub counts_at : List ErrorCounts → ℕ → ErrorCounts
counts_at counters i = slice_index_or counters i at_start

-- The part with the error counts of interface i, if the counts before and after differ.
abbrev pub told_counts_at : List ErrorCounts → List ErrorCounts → ℕ → List ℕ
told_counts_at before after i = counts_part i (counts_at before i) (counts_at after i)

-- The parts with the error counts that changed, by interface.
unfoldable pub told_counts : List ErrorCounts → List ErrorCounts → List ℕ
told_counts before after = flat_map (told_counts_at before after) (range_with_len 0 16)

-- The number of lost frames of an interface, or 0 if it does not exist (own choice).
abbrev pub lost_in : Option InterfaceState → ℕ
lost_in None = 0
lost_in (Some l) = lost_of l

-- The part with the number of frames that interface i lost since the state was stored, if it lost any.
abbrev pub told_lost_at : List ℕ → List InterfaceState → ℕ → List ℕ
told_lost_at before interfaces i = lost_part i (lost_in (slice_get interfaces i) - get_or before i 0)

-- The parts with the numbers of frames lost since the state was stored, by interface.
unfoldable pub told_lost : List ℕ → List InterfaceState → List ℕ
told_lost before interfaces = flat_map (told_lost_at before interfaces) (range_with_len 0 (length before))

-- The word for an item that was queued on socket s, if there is an item.
abbrev pub item_in : ℕ → Option Received → List (List ℕ)
item_in s None = []
item_in s (Some r) = put_words s (r ∷ [])

-- The words for the waiting items of a socket, without the items that were already waiting when the state was stored.
abbrev pub put_in : Option SocketState → Closed → List (List ℕ)
put_in None seen = []
put_in (Some v) seen = put_words v.number (drop seen.unread v.waiting)

-- The word for the number of items dropped at a socket since its state was stored, if there are any.
abbrev pub dropped_in : Option SocketState → Closed → List (List ℕ)
dropped_in None seen = []
dropped_in (Some v) seen = dropped_words v.number (v.dropped - seen.dropped)

-- The stored counts of a socket with no waiting and no dropped items.
abbrev pub nothing_seen : Closed
nothing_seen = record { unread = 0; dropped = 0 }

-- The words for the items queued on the socket at index p since the state was stored.
abbrev pub told_put_at : List Closed → List SocketState → ℕ → List (List ℕ)
told_put_at before sockets p = put_in (slice_get sockets p) (get_or before p nothing_seen)

-- The words for the items queued since the state was stored, by socket.
unfoldable pub told_put : List Closed → List SocketState → List (List ℕ)
told_put before sockets = flat_map (told_put_at before sockets) (range_with_len 0 (length before))

-- The word for the number of items dropped at the socket at index p since the state was stored, if there are any.
abbrev pub told_dropped_at : List Closed → List SocketState → ℕ → List (List ℕ)
told_dropped_at before sockets p = dropped_in (slice_get sockets p) (get_or before p nothing_seen)

-- The words for the numbers of items dropped since the state was stored, by socket.
unfoldable pub told_dropped : List Closed → List SocketState → List (List ℕ)
told_dropped before sockets = flat_map (told_dropped_at before sockets) (range_with_len 0 (length before))

-- The parts with all effects since the state was stored.
unfoldable pub told_parts : Seen → Parts → List ℕ
told_parts seen parts =
    told_counts seen.counters parts.nodes.counters ++ told_lost seen.lost parts.interfaces
    ++ part_named (codes "put") (told_put seen.sockets parts.sockets)
    ++ part_named (codes "dropped") (told_dropped seen.sockets parts.sockets)
