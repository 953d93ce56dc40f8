use Rattle.std.specs.Prelude.{◌≡◌, ℕ, ◌-◌, ◌==◌, ◌<◌, nat_le, Bool, not, ◌&&◌}
use Rattle.std.specs.Prelude.{List, [], ◌∷◌, length, slice_get, Option, if◌then◌else◌}
use Rattle.can_frame.specs.Frames.{CanFrame, is_fd}
use Rattle.can_filter.specs.declared.options.Options.{Options}
use Rattle.can_event.specs.Events.{max_rx_capacity}
use Rattle.can_event.specs.declared.bus_config.BusConfig.{BusConfig}
use Rattle.can_event.specs.declared.entry.Entry.{Entry}
use Rattle.can_event.specs.declared.received.Received.{Received}
use Rattle.can_event.specs.declared.socket_id.SocketId.{SocketId}
use Rattle.can_event.specs.declared.event.Event.{Event}
use Rattle.can_event.specs.declared.event.Event.TheVariants.{Open, Close, SetFilters, SetOption}
use Rattle.can_event.specs.declared.event.Event.TheVariants.{Send, Receive, Attempt, Restart, Down}
use Rattle.can_event.specs.declared.reply.Closed.{Closed}
use Rattle.can_event.specs.declared.reply.Reply.{Reply}
use Rattle.can_event.specs.declared.reply.Reply.TheVariants as reply
use Rattle.can_event.specs.declared.refusal.Refusal.TheVariants as refusal
use Rattle.can_bus.specs.Sockets.{places, open_sockets, is_open, iface_of, options_of}
use Rattle.can_bus.specs.Transmit.{sent_by, waiting_count}
use Rattle.can_confine.specs.Confinement.{is_down, is_off, is_silent}
use Rattle.can_bus.specs.Counters.{state_at}
use Rattle.can_bus.specs.Attempts.{winner, attempt_reply}
use Rattle.can_bus.specs.Queues.{taken_from, queued_to, dropped_at}

-- The only reply that an event may have after the entries before it.

-- The bus has no interface with this number.
abbrev pub lacks_iface : BusConfig → ℕ → Bool
lacks_iface c i = nat_le c.ifaces i

-- A socket may be opened with this capacity (own choice).
abbrev pub is_capacity : ℕ → Bool
is_capacity n = nat_le 1 n && nat_le n max_rx_capacity

-- No more sockets may be opened: 64 are open (own choice).
abbrev pub has_all_sockets : List Entry → Bool
has_all_sockets past = nat_le 64 (length (open_sockets past))

-- The next socket to be opened; its number is the number of sockets opened before.
abbrev pub next_socket : List Entry → SocketId
next_socket past = record { 0 = length (places past) }

-- The counts of a socket at its close: its unread items and its dropped items.
abbrev pub counts_at_close : BusConfig → List Entry → ℕ → Closed
counts_at_close c past s = record {
  unread = length (queued_to c past s) - length (taken_from past s);
  dropped = length (dropped_at c past s);
}

-- The oldest item that waits on socket s.
abbrev pub next_item : BusConfig → List Entry → ℕ → Option Received
next_item c past s = slice_get (queued_to c past s) (length (taken_from past s))

-- The frame is an FD frame, and the socket has not enabled FD frames (CAN_RAW_FD_FRAMES of linux/can/raw.h).
abbrev pub lacks_fd : CanFrame → Options → Bool
lacks_fd frame options = is_fd frame.payload && not options.fd

-- The transmit queue of interface i is full (ENOBUFS of write(2) on a CAN socket).
abbrev pub has_full_queue : BusConfig → List Entry → ℕ → Bool
has_full_queue c past i = waiting_count past i == c.tx_capacity

-- A call on a socket that is not open is refused.
abbrev pub if_open : List Entry → ℕ → Reply → Reply
if_open past s r = if is_open past s then r else reply.Refused refusal.NoSocket

-- The reply to a send on an open socket: the first case that holds.
abbrev pub send_reply : BusConfig → List Entry → ℕ → CanFrame → Reply
send_reply c past s frame =
    if lacks_fd frame (options_of past s) then reply.Refused refusal.FdOff
    else if is_off (state_at c past (iface_of past s)) then reply.Refused refusal.BusOff
    else if is_down (state_at c past (iface_of past s)) then reply.Refused refusal.Down
    else if has_full_queue c past (iface_of past s) then reply.Refused refusal.NoBuffers
    else reply.Sent (length (sent_by past (iface_of past s)))

-- The reply to an event after these entries: the first case that holds.
abbrev pub legal_reply : BusConfig → List Entry → Event → Reply
legal_reply c past (Open i capacity) =
    if lacks_iface c i then reply.Refused refusal.NoInterface
    else if not (is_capacity capacity) then reply.Refused refusal.BadCapacity
    else if has_all_sockets past then reply.Refused refusal.TooManySockets
    else reply.Opened (next_socket past)
legal_reply c past (Close s) = if_open past s.0 (reply.Closed (counts_at_close c past s.0))
legal_reply c past (SetFilters s filters) = if_open past s.0 reply.Done
legal_reply c past (SetOption s option) = if_open past s.0 reply.Done
legal_reply c past (Send s frame) = if_open past s.0 (send_reply c past s.0 frame)
legal_reply c past (Receive s) = if_open past s.0 (reply.Received (next_item c past s.0))
legal_reply c past (Attempt m v) = attempt_reply c past m v (winner c past)
legal_reply c past (Restart i m) =
    if lacks_iface c i then reply.Refused refusal.NoInterface
    else if is_silent (state_at c past i) then reply.Done
    else reply.Refused refusal.NotBusOff
legal_reply c past (Down i m) = if lacks_iface c i then reply.Refused refusal.NoInterface else reply.Done

-- A history is legal: it is within the limit, and each reply is the one that the entries before it require.
abbrev pub IsLegal : BusConfig → List Entry → Type 0
IsLegal c [] = Unit {0}
IsLegal c (e ∷ past) = (length past < c.limit) × (e.reply ≡ legal_reply c past e.event) × IsLegal c past
