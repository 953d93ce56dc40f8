use Rattle.std.specs.Prelude.{ℕ, ◌==◌, Bool, false, ◌&&◌, ◌||◌, List, [], ◌∷◌}
use Rattle.std.specs.Prelude.{◌++◌, slice_get, Option, Some, None, if◌then◌else◌}
use Rattle.std.specs.Option.{option_map}
use Rattle.can_frame.specs.Frames.{ErrorMessage}
use Rattle.can_frame.specs.Sets.{is_in}
use Rattle.can_frame.specs.declared.iface.IfaceSet.{IfaceSet}
use Rattle.can_frame.specs.declared.item.Item.TheVariants as item
use Rattle.can_fault.specs.declared.verdict.Verdict.{Verdict}
use Rattle.can_attempt.specs.declared.class.Class.{Class}
use Rattle.can_attempt.specs.Attempts.{Transmission, is_among, receivers, hit, counts_after, is_done}
use Rattle.can_errframe.specs.ErrorMessages.{fault_message, state_message, restart_message}
use Rattle.can_errframe.specs.declared.role.Role.{Role}
use Rattle.can_errframe.specs.declared.role.Role.TheVariants as role
use Rattle.can_event.specs.declared.bus_config.BusConfig.{BusConfig}
use Rattle.can_event.specs.declared.entry.Entry.{Entry}
use Rattle.can_event.specs.declared.event.Event.{Event}
use Rattle.can_event.specs.declared.event.Event.TheVariants.{Attempt, Restart}
use Rattle.can_event.specs.declared.pending.Pending.{Pending}
use Rattle.can_event.specs.declared.received.Received.{Received}
use Rattle.can_event.specs.declared.reply.Reply.{Reply}
use Rattle.can_event.specs.declared.reply.Reply.TheVariants as reply
use Rattle.can_event.specs.declared.socket_id.SocketId.{SocketId}
use Rattle.can_event.specs.declared.attempt.Tried.{Tried}
use Rattle.can_event.specs.declared.attempt.Attempt.TheVariants as attempt
use Rattle.can_bus.specs.Transmit.{sent_by}
use Rattle.can_bus.specs.Counters.{transmission}
use Rattle.can_event.specs.Events.{tried_item}

-- The items that an entry posts to the sockets of an interface.

-- An item for the sockets of an interface, and the socket that sent it.
pub record Post : Type 0 where
  pub received : Received
  pub sender : Option ℕ

-- An item for sockets, with the socket that sent it, if there is one (own choice).
abbrev pub post_of : Received → Option SocketId → Post
post_of r s = record { received = r; sender = option_map (λ (k : SocketId). k.0) s }

-- A done frame returns to its own interface, if loopback was on when it was sent (the kernel's networking/can document,
-- local loopback of sent frames).
abbrev pub is_looped_back : Class → Option Pending → Bool
is_looped_back k None = false
is_looped_back k (Some p) = is_done k && p.loopback

-- The socket that sent a frame, which was queued like this (own choice).
abbrev pub sender_in : Option Pending → Option ℕ
sender_in None = None
sender_in (Some p) = Some p.socket.0

-- A tried frame goes to each interface that accepted it, and to the winner if it is looped back (the kernel's
-- networking/can document, local loopback of sent frames).
abbrev pub goes_to : ℕ → Tried → Bool → Bool
goes_to i t looped_back = is_in i t.accepted || ((i == t.winner) && looped_back)

-- A tried frame is posted to the interfaces to which it goes.
abbrev pub data_posts : ℕ → Tried → Option Pending → List Post
data_posts i t p =
    if goes_to i t (is_looped_back t.class p) then record { received = tried_item t; sender = sender_in p } ∷ []
    else []

-- An error message frame comes from interface i itself, and has no number.
abbrev pub error_posts : ℕ → ℕ → Option ErrorMessage → List Post
error_posts i m None = []
error_posts i m (Some e) =
    record { received = record { item = item.Error e; from = i; number = 0; moment = m }; sender = None } ∷ []

-- The role of interface i in an attempt: None if it is bus off or down.
abbrev pub role_at : Transmission → ℕ → Option Role
role_at t i =
    if i == t.winner then Some role.Winner
    else if is_among i (hit t) then Some role.Named
    else if is_among i (receivers t) then Some role.Other
    else None

-- The error message frame for a fault, as an interface in this role sees it (own choice).
abbrev pub fault_message_for : Class → Verdict → Option Role → Option ErrorMessage
fault_message_for k v None = None
fault_message_for k v (Some r) = fault_message k v r

-- The items that an attempt posts to the sockets of interface i, in order. They are the frame, the fault if the
-- interface reports faults, and a change of state.
abbrev pub attempt_posts : IfaceSet → Transmission → Tried → Option Pending → ℕ → List Post
attempt_posts reporting tr t p i =
    data_posts i t p
    ++ (if is_in i reporting then error_posts i t.moment (fault_message_for t.class tr.verdict (role_at tr i)) else [])
    ++ error_posts i t.moment (state_message (tr.counts i) (counts_after tr i))

-- A restart is reported on the restarted interface.
abbrev pub restart_posts : ℕ → ℕ → ℕ → List Post
restart_posts k m i = if i == k then error_posts i m (Some restart_message) else []

-- An attempt reports its restarts in the same way.
abbrev pub auto_restart_posts : IfaceSet → ℕ → ℕ → List Post
auto_restart_posts restarted m i = if is_in i restarted then error_posts i m (Some restart_message) else []

-- The items that an entry posts to the sockets of interface i, in order.
abbrev pub posts_of : BusConfig → List Entry → ℕ → Event → Reply → List Post
posts_of c past i (Attempt m v) (reply.Attempted (attempt.Tried t)) =
    attempt_posts c.reporting (transmission c past t.winner v) t (slice_get (sent_by past t.winner) t.number) i
    ++ auto_restart_posts t.restarted m i
posts_of c past i (Attempt m v) (reply.Attempted (attempt.Idle restarted)) = auto_restart_posts restarted m i
posts_of c past i (Restart k m) reply.Done = restart_posts k m i
posts_of c past i _ _ = []

-- Socket s sent the item.
abbrev pub is_own : Option ℕ → ℕ → Bool
is_own None s = false
is_own (Some k) s = k == s
