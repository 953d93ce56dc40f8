use Rattle.std.specs.Prelude.{◌≡◌, ℕ, ◌+◌, ◌-◌, nat_lt, List, [], length, map, slice_get}
use Rattle.std.specs.Prelude.{Option, Some, None, if◌then◌else◌}
use Rattle.std.specs.List.{range_with_len}
use Rattle.can_confine.specs.Confinement.{ErrorCounts}
use Rattle.can_event.specs.declared.bus_config.BusConfig.{BusConfig}
use Rattle.can_event.specs.declared.entry.Entry.{Entry}
use Rattle.can_event.specs.declared.received.Received.{Received}
use Rattle.can_event.specs.declared.reply.Closed.{Closed}
use Rattle.can_event.specs.declared.socket_id.SocketId.{SocketId}
use Rattle.can_event.specs.declared.stats.SocketStats.{SocketStats}
use Rattle.can_event.specs.declared.stats.IfaceStats.{IfaceStats}
use Rattle.can_bus.specs.Sockets.{is_open}
use Rattle.can_bus.specs.Transmit.{sent_by, waiting_count, done_count, lost_count, refused_count}
use Rattle.can_bus.specs.Counters.{counts_of}
use Rattle.can_bus.specs.Queues.{queued_to, dropped_at, taken_from}
use Rattle.can_bus.specs.Changes.{IsAt, IsNowhere}
use Rattle.can_bus.specs.State.{InterfaceState, SocketState}

-- The counts that a bus reports without an event.

-- The counts of an open socket: its queued, dropped and taken items.
abbrev pub socket_stats_of : BusConfig → List Entry → ℕ → Option SocketStats
socket_stats_of c past s =
    if is_open past s then Some (record {
      queued = length (queued_to c past s);
      dropped = length (dropped_at c past s);
      taken = length (taken_from past s);
    })
    else None

-- The counts of an interface: its frames sent, done, waiting, lost and refused, and its error counts.
abbrev pub iface_stats_of : BusConfig → List Entry → ℕ → Option IfaceStats
iface_stats_of c past i =
    if nat_lt i c.ifaces then Some (record {
      sent = length (sent_by past i);
      done = done_count past i;
      waiting = waiting_count past i;
      lost = lost_count past i;
      refused = refused_count past i;
      counters = counts_of c past i;
    })
    else None

-- The error counts at all 16 places for interfaces.
unfoldable pub all_counts : BusConfig → List Entry → List ErrorCounts
all_counts c past = map (counts_of c past) (range_with_len 0 16)

-- The same, from the state of the interface.
abbrev pub told_interface : ErrorCounts → InterfaceState → IfaceStats
told_interface counts l = record {
  sent = l.sent;
  done = l.done;
  waiting = length l.waiting;
  lost = l.gone - l.done;
  refused = l.refused;
  counters = counts;
}

-- The number of lost frames, from the state of the interface.
abbrev pub lost_of : InterfaceState → ℕ
lost_of l = l.gone - l.done

-- The number of a socket, and the number of its waiting and of its dropped items.
abbrev pub numbered_counts : SocketState → SocketId × Closed
numbered_counts v = (record { 0 = v.number }, record { unread = length v.waiting; dropped = v.dropped })

-- The items that wait on a socket, if it exists (own choice).
abbrev pub waiting_in : Option SocketState → List Received
waiting_in None = []
waiting_in (Some v) = v.waiting

-- The items that wait on the open socket at this place.
abbrev pub waiting_at : List SocketState → ℕ → List Received
waiting_at sockets place = waiting_in (slice_get sockets place)

-- These are the counts of an open socket, from its state (own choice).
pub record ReportsOf (sockets : List SocketState) (s : ℕ) (stats : SocketStats) : Type 0 where
  pub place : ℕ
  pub socket : SocketState
  pub is_at : IsAt sockets s place socket
  pub told : stats ≡ record {
    queued = socket.taken + length socket.waiting;
    dropped = socket.dropped;
    taken = socket.taken;
  }

-- The counts of a socket, from its state: None if it is not open (own choice).
abbrev pub ReportsSocket : List SocketState → ℕ → Option SocketStats → Type 0
ReportsSocket sockets s None = IsNowhere sockets s
ReportsSocket sockets s (Some stats) = ReportsOf sockets s stats
