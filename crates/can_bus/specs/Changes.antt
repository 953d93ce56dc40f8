use Rattle.std.specs.Prelude.{◌≡◌, ℕ, ◌+◌, ◌-◌, ◌==◌, ◌<◌, ◌≤◌, Bool, true, false, List, [], ◌∷◌}
use Rattle.std.specs.Prelude.{◌++◌, length, map, drop, remove, slice_get, slice_set, slice_index_or}
use Rattle.std.specs.Prelude.{is_some, Option, Some, None, Result, Ok, Err, if◌then◌else◌}
use Rattle.std.specs.List.{list_any, range_with_len}
use Rattle.can_filter.specs.Filters.{CanFilter}
use Rattle.can_filter.specs.Passing.{receives_all, default_options}
use Rattle.can_frame.specs.Frames.{CanFrame}
use Rattle.can_frame.specs.Sets.{is_in, set_where}
use Rattle.can_frame.specs.declared.iface.IfaceSet.{IfaceSet}
use Rattle.can_arbiter.specs.Keys.{IsWinner, IsIdle}
use Rattle.can_confine.specs.Confinement.{at_start, state_of, stepped, is_down, is_off, is_silent}
use Rattle.can_confine.specs.Confinement.Step.{TakenDown}
use Rattle.can_fault.specs.declared.verdict.Verdict.{Verdict}
use Rattle.can_attempt.specs.declared.class.Class.{Class}
use Rattle.can_attempt.specs.declared.nodes.Nodes.{Nodes}
use Rattle.can_attempt.specs.Attempts.{Transmission, attempt_between, counts_at, judged, is_done}
use Rattle.can_event.specs.declared.attempt.Attempt.{Attempt}
use Rattle.can_event.specs.declared.attempt.Attempt.TheVariants as attempt
use Rattle.can_event.specs.Events.{max_rx_capacity}
use Rattle.can_event.specs.declared.bus_config.BusConfig.{BusConfig}
use Rattle.can_event.specs.declared.received.Received.{Received}
use Rattle.can_event.specs.declared.reply.Closed.{Closed}
use Rattle.can_event.specs.declared.reply.Reply.{Reply}
use Rattle.can_event.specs.declared.reply.Reply.TheVariants as reply
use Rattle.can_event.specs.declared.attempt.Tried.{Tried}
use Rattle.can_event.specs.declared.pending.Pending.{Pending}
use Rattle.can_event.specs.declared.refusal.Refusal.{Refusal}
use Rattle.can_event.specs.declared.socket_id.SocketId.{SocketId}
use Rattle.can_event.specs.declared.refusal.Refusal.TheVariants as refusal
use Rattle.can_bus.specs.Posts.{attempt_posts, restart_posts, auto_restart_posts}
use Rattle.can_bus.specs.State.{InterfaceState, SocketState, Parts, reached, key_in}
use Rattle.can_bus.specs.Legal.{lacks_fd}

-- The effect of each call on the state of a bus: the parts before it and after it.

-- ---- sockets

-- Socket s is at place k.
pub record IsAt (sockets : List SocketState) (s k : ℕ) (v : SocketState) : Type 0 where
  pub there : slice_get sockets k ≡ Some v
  pub number : v.number ≡ s

-- No socket has this number.
abbrev pub IsNowhere : List SocketState → ℕ → Type 0
IsNowhere sockets s = list_any (λ v. v.number == s) sockets ≡ false

-- A call on a socket that is not open is refused.
abbrev pub FindsNone : Parts → ℕ → Refusal → Parts → Type 0
FindsNone old s why new = (why ≡ refusal.NoSocket) × IsNowhere old.sockets s × (new ≡ old)

-- The socket without its oldest item, if one was taken.
abbrev pub relieved : Option Received → SocketState → SocketState
relieved None v = v
relieved (Some r) v = record v { waiting = drop 1 v.waiting; taken = v.taken + 1 }

-- The call changes one socket.
pub record Alters (old : Parts) (s : ℕ) (change : SocketState → SocketState) (new : Parts) : Type 0 where
  pub place : ℕ
  pub socket : SocketState
  pub is_at : IsAt old.sockets s place socket
  pub after : new ≡ record old { sockets = slice_set old.sockets place (change socket) }

-- The call sets the filters or an option of a socket.
abbrev pub Sets : Parts → ℕ → (SocketState → SocketState) → Reply → Parts → Type 0
Sets old s change reply.Done new = Alters old s change new
Sets old s change (reply.Refused why) new = FindsNone old s why new
Sets old s change _ new = ⊥

-- The call sets the filters of a socket, unless memory was refused.
abbrev pub Refilters : Parts → ℕ → List CanFilter → Reply → Parts → Type 0
Refilters old s filters (reply.Refused refusal.NoMemory) new = new ≡ old
Refilters old s filters r new = Sets old s (λ v. record v { filters = filters }) r new

-- An open socket returns its oldest item, or nothing (own choice).
pub record Gives (old : Parts) (s : ℕ) (item : Option Received) (new : Parts) : Type 0 where
  pub place : ℕ
  pub socket : SocketState
  pub is_at : IsAt old.sockets s place socket
  pub oldest : item ≡ slice_get socket.waiting 0
  pub after : new ≡ record old { sockets = slice_set old.sockets place (relieved item socket) }

-- The call takes the oldest item of a socket.
abbrev pub Receives : Parts → ℕ → Reply → Parts → Type 0
Receives old s (reply.Received item) new = Gives old s item new
Receives old s (reply.Refused why) new = FindsNone old s why new
Receives old s _ new = ⊥

-- An open socket is closed, and returns these counts (own choice).
pub record Removes (old : Parts) (s : ℕ) (c : Closed) (new : Parts) : Type 0 where
  pub place : ℕ
  pub socket : SocketState
  pub is_at : IsAt old.sockets s place socket
  pub counts : c ≡ record { unread = length socket.waiting; dropped = socket.dropped }
  pub after : new ≡ record old { sockets = remove old.sockets place }

-- The call closes a socket.
abbrev pub Closes : Parts → ℕ → Reply → Parts → Type 0
Closes old s (reply.Closed c) new = Removes old s c new
Closes old s (reply.Refused why) new = FindsNone old s why new
Closes old s _ new = ⊥

-- A socket may have this capacity (own choice).
abbrev pub IsCapacity : ℕ → Type 0
IsCapacity n = (1 ≤ n) × (n ≤ max_rx_capacity)

-- A socket when it is opened.
abbrev pub fresh : ℕ → ℕ → ℕ → SocketState
fresh n i capacity = record {
  number = n;
  iface = i;
  capacity = capacity;
  filters = receives_all;
  options = default_options;
  waiting = [];
  taken = 0;
  dropped = 0;
}

-- The sockets with one more under the next number.
abbrev pub with_socket : Parts → ℕ → ℕ → Parts
with_socket old i capacity = record old {
  sockets = old.sockets ++ fresh old.opened i capacity ∷ [];
  opened = old.opened + 1;
}

-- The call opens a socket.
abbrev pub Opens : Parts → ℕ → ℕ → Reply → Parts → Type 0
Opens old i capacity (reply.Opened s) new =
    (i < old.nodes.count)
    × IsCapacity capacity
    × (length old.sockets < 64)
    × (s ≡ record { 0 = old.opened })
    × (new ≡ with_socket old i capacity)
Opens old i capacity (reply.Refused refusal.NoInterface) new = (old.nodes.count ≤ i) × (new ≡ old)
Opens old i capacity (reply.Refused refusal.BadCapacity) new =
    (i < old.nodes.count) × ¬ IsCapacity capacity × (new ≡ old)
Opens old i capacity (reply.Refused refusal.TooManySockets) new =
    (i < old.nodes.count) × IsCapacity capacity × (64 ≤ length old.sockets) × (new ≡ old)
Opens old i capacity (reply.Refused refusal.NoMemory) new =
    (i < old.nodes.count) × IsCapacity capacity × (length old.sockets < 64) × (new ≡ old)
Opens old i capacity _ new = ⊥

-- ---- sending

-- The interface of a socket.
pub record IsInterfaceOf (old : Parts) (s : ℕ) (v : SocketState) (l : InterfaceState) : Type 0 where
  pub place : ℕ
  pub is_at : IsAt old.sockets s place v
  pub interface : slice_get old.interfaces v.iface ≡ Some l

-- Interface i is bus off (own choice).
abbrev pub is_off_at : Nodes → ℕ → Bool
is_off_at nodes i = is_off (state_of (counts_at nodes i))

-- Interface i is down (own choice).
abbrev pub is_down_at : Nodes → ℕ → Bool
is_down_at nodes i = is_down (state_of (counts_at nodes i))

-- Interface i is bus off or down (own choice).
abbrev pub is_silent_at : Nodes → ℕ → Bool
is_silent_at nodes i = is_silent (state_of (counts_at nodes i))

-- A frame sent on this socket, as it waits (own choice).
abbrev pub pending_of : CanFrame → SocketId → SocketState → Pending
pending_of frame s v = record { frame = frame; socket = s; loopback = v.options.loopback }

-- The interface after it queued this frame (own choice).
abbrev pub with_pending : Pending → InterfaceState → InterfaceState
with_pending p l = record l { waiting = l.waiting ++ p ∷ []; sent = l.sent + 1 }

-- The interface after it refused a frame because its queue was full (own choice).
abbrev pub with_refused : InterfaceState → InterfaceState
with_refused l = record l { refused = l.refused + 1 }

-- The parts with this interface at place i, and with the key of its first frame.
abbrev pub with_interface : Parts → ℕ → InterfaceState → Parts
with_interface old i l = record old {
  interfaces = slice_set old.interfaces i l;
  keys = slice_set old.keys i (key_in (slice_get l.waiting 0));
}

-- A sent frame is queued, as the n-th frame of its interface (own choice).
pub record Takes (old : Parts) (s n : ℕ) (pending : SocketState → Pending) (new : Parts) : Type 0 where
  pub socket : SocketState
  pub interface : InterfaceState
  pub is_interface : IsInterfaceOf old s socket interface
  pub may : lacks_fd (pending socket).frame socket.options ≡ false
  pub live : is_silent_at old.nodes socket.iface ≡ false
  pub room : length interface.waiting < interface.room
  pub number : n ≡ interface.sent
  pub after : new ≡ with_interface old socket.iface (with_pending (pending socket) interface)

-- The socket is open and has not enabled FD frames, and the frame is an FD frame.
pub record IsFdOffFor (old : Parts) (s : ℕ) (pending : SocketState → Pending) : Type 0 where
  pub place : ℕ
  pub socket : SocketState
  pub is_at : IsAt old.sockets s place socket
  pub lacks : lacks_fd (pending socket).frame socket.options ≡ true

-- The socket is open, and its interface is bus off (own choice).
pub record IsOffFor (old : Parts) (s : ℕ) (pending : SocketState → Pending) : Type 0 where
  pub place : ℕ
  pub socket : SocketState
  pub is_at : IsAt old.sockets s place socket
  pub may : lacks_fd (pending socket).frame socket.options ≡ false
  pub off : is_off_at old.nodes socket.iface ≡ true

-- The socket is open, and its interface is down (own choice).
pub record IsDownFor (old : Parts) (s : ℕ) (pending : SocketState → Pending) : Type 0 where
  pub place : ℕ
  pub socket : SocketState
  pub is_at : IsAt old.sockets s place socket
  pub may : lacks_fd (pending socket).frame socket.options ≡ false
  pub down : is_down_at old.nodes socket.iface ≡ true

-- A sent frame is refused because the queue is full (own choice).
pub record FindsFull (old : Parts) (s : ℕ) (pending : SocketState → Pending) (new : Parts) : Type 0 where
  pub socket : SocketState
  pub interface : InterfaceState
  pub is_interface : IsInterfaceOf old s socket interface
  pub may : lacks_fd (pending socket).frame socket.options ≡ false
  pub live : is_silent_at old.nodes socket.iface ≡ false
  pub full : length interface.waiting ≡ interface.room
  pub after : new ≡ record old { interfaces = slice_set old.interfaces socket.iface (with_refused interface) }

-- The call sends a frame on a socket.
abbrev pub Sends : Parts → ℕ → (SocketState → Pending) → Result ℕ Refusal → Parts → Type 0
Sends old s pending (Ok n) new = Takes old s n pending new
Sends old s pending (Err refusal.NoSocket) new = IsNowhere old.sockets s × (new ≡ old)
Sends old s pending (Err refusal.FdOff) new = IsFdOffFor old s pending × (new ≡ old)
Sends old s pending (Err refusal.BusOff) new = IsOffFor old s pending × (new ≡ old)
Sends old s pending (Err refusal.Down) new = IsDownFor old s pending × (new ≡ old)
Sends old s pending (Err refusal.NoBuffers) new = FindsFull old s pending new
Sends old s pending (Err _) new = ⊥

-- ---- attempts

-- The winner's interface after an attempt of this class; `off` means that it went bus off.
abbrev pub settled : Class → Bool → InterfaceState → InterfaceState
settled k off l = record l {
  waiting = if off then [] else if is_done k then drop 1 l.waiting else l.waiting;
  gone = if off then l.sent else if is_done k then l.gone + 1 else l.gone;
  done = if is_done k then l.done + 1 else l.done;
}

-- The result of an attempt for the tried frame, the n-th of the winner.
abbrev pub tried_in : Transmission → ℕ → ℕ → IfaceSet → Pending → Tried
tried_in tr m n restarted pending = record {
  moment = m;
  winner = tr.winner;
  number = n;
  frame = pending.frame;
  class = (judged tr).class;
  accepted = (judged tr).accepted;
  off = (judged tr).off;
  restarted = restarted;
}

-- If the winner went bus off, it starts to count the attempts until its restart.
abbrev pub counting_down : ℕ → ℕ → Bool → List ℕ → List ℕ
counting_down n w off left = if off then slice_set left w n else left

-- The parts after an attempt; the winner's interface was `interface` before it.
abbrev pub after_try : Parts → BusConfig → Transmission → InterfaceState → Pending → Tried → Parts
after_try old c tr interface pending t =
    record (with_interface old tr.winner (settled t.class (is_in tr.winner t.off) interface)) {
      nodes = record old.nodes { counters = (judged tr).counters };
      left = counting_down c.auto_restart tr.winner (is_in tr.winner t.off) old.left;
      sockets = map (reached (attempt_posts c.reporting tr t (Some pending))) old.sockets;
      tried = old.tried + 1;
    }

-- The attempt tries the first frame of the winner, and reports these interfaces as restarted (own choice).
pub record Carries (old : Parts) (c : BusConfig) (m : ℕ) (v : Verdict) (restarted : IfaceSet) (t : Tried)
    (new : Parts) : Type 0 where
  pub place : ℕ
  pub interface : InterfaceState
  pub pending : Pending
  pub wins : IsWinner old.keys place
  pub there : slice_get old.interfaces place ≡ Some interface
  pub oldest : slice_get interface.waiting 0 ≡ Some pending
  pub tried : t ≡ tried_in (attempt_between old.nodes place v c.ack) m interface.gone restarted pending
  pub after : new ≡ after_try old c (attempt_between old.nodes place v c.ack) interface pending t

-- The attempt tries a frame, if a live interface has one, and reports these interfaces as restarted.
abbrev pub Tries : Parts → BusConfig → ℕ → Verdict → IfaceSet → Option Tried → Parts → Type 0
Tries old c m v restarted None new = IsIdle old.keys × (new ≡ old)
Tries old c m v restarted (Some t) new = Carries old c m v restarted t new

-- The interfaces whose restart is one attempt away.
abbrev pub due_in : List ℕ → IfaceSet
due_in left = set_where (λ i. slice_index_or left i 0 == 1) 16

-- Each interface that counts has one attempt less until its restart.
abbrev pub ticked : List ℕ → List ℕ
ticked left = map (λ n. n - 1) left

-- The error counts after a restart of these interfaces.
abbrev pub begun_anew : IfaceSet → Nodes → Nodes
begun_anew restarted nodes = record nodes {
  counters = map (λ i. if is_in i restarted then at_start else counts_at nodes i) (range_with_len 0 16);
}

-- The parts after an attempt restarts these interfaces.
abbrev pub after_auto_restart : Parts → IfaceSet → ℕ → Parts
after_auto_restart old restarted m = record old {
  nodes = begun_anew restarted old.nodes;
  sockets = map (reached (auto_restart_posts restarted m)) old.sockets;
}

-- The result of an attempt from the tried frame, if there is one.
abbrev pub came_to : IfaceSet → Option Tried → Attempt
came_to restarted None = attempt.Idle restarted
came_to restarted (Some t) = attempt.Tried t

-- An attempt counts down to each restart, tries a frame, and restarts interfaces.
pub record Attempts (old : Parts) (c : BusConfig) (m : ℕ) (v : Verdict) (a : Attempt) (new : Parts) : Type 0 where
  pub tried : Option Tried
  pub between : Parts
  pub tries : Tries (record old { left = ticked old.left }) c m v (due_in old.left) tried between
  pub came : a ≡ came_to (due_in old.left) tried
  pub after : new ≡ after_auto_restart between (due_in old.left) m

-- An interface with a key exists, is live, and has a frame to send.
pub record IsReady (parts : Parts) (w : ℕ) : Type 0 where
  pub there : w < length parts.interfaces
  pub counted : w < parts.nodes.count
  pub live : is_silent_at parts.nodes w ≡ false
  pub has_head : (l : InterfaceState) → slice_get parts.interfaces w ≡ Some l → is_some (slice_get l.waiting 0) ≡ true

-- Each interface with a key is ready to send (own choice).
abbrev pub AreReady : Parts → Type 0
AreReady parts = (w k : ℕ) → slice_get parts.keys w ≡ Some (Some k) → IsReady parts w

-- ---- restarts

-- The parts after a restart.
abbrev pub after_restart : Parts → ℕ → ℕ → Parts
after_restart old i m = record old {
  nodes = record old.nodes { counters = slice_set old.nodes.counters i at_start };
  left = slice_set old.left i 0;
  sockets = map (reached (restart_posts i m)) old.sockets;
}

-- The call restarts an interface.
abbrev pub Restarts : Parts → ℕ → ℕ → Reply → Parts → Type 0
Restarts old i m reply.Done new =
    (i < old.nodes.count) × (is_silent_at old.nodes i ≡ true) × (new ≡ after_restart old i m)
Restarts old i m (reply.Refused refusal.NoInterface) new = (old.nodes.count ≤ i) × (new ≡ old)
Restarts old i m (reply.Refused refusal.NotBusOff) new =
    (i < old.nodes.count) × (is_silent_at old.nodes i ≡ false) × (new ≡ old)
Restarts old i m _ new = ⊥

-- ---- interfaces that go down

-- An interface that lost all its frames (own choice).
abbrev pub emptied : InterfaceState → InterfaceState
emptied l = record l { waiting = []; gone = l.sent }

-- The parts after interface i, which was `l`, goes down. Its frames are lost, it counts no attempts, and its sockets
-- receive nothing.
abbrev pub after_down : Parts → ℕ → InterfaceState → Parts
after_down old i l = record (with_interface old i (emptied l)) {
  nodes = record old.nodes {
    counters = slice_set old.nodes.counters i (stepped (counts_at old.nodes i) TakenDown);
  };
  left = slice_set old.left i 0;
}

-- An interface that exists goes down (own choice).
pub record GoesDown (old : Parts) (i : ℕ) (new : Parts) : Type 0 where
  pub interface : InterfaceState
  pub counted : i < old.nodes.count
  pub there : slice_get old.interfaces i ≡ Some interface
  pub after : new ≡ after_down old i interface

-- The call takes an interface down.
abbrev pub TakesDown : Parts → ℕ → Reply → Parts → Type 0
TakesDown old i reply.Done new = GoesDown old i new
TakesDown old i (reply.Refused refusal.NoInterface) new = (old.nodes.count ≤ i) × (new ≡ old)
TakesDown old i _ new = ⊥
