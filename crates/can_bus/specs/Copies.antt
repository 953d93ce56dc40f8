use Rattle.std.specs.Prelude.{◌≡◌, ℕ, ◌+◌, ◌≤◌, ◌==◌, nat_lt, Bool, true, false, ◌&&◌, ◌||◌, List, []}
use Rattle.std.specs.Prelude.{◌∷◌, ◌++◌, length, map, filter, slice_get, Option, Some, if◌then◌else◌}
use Rattle.std.specs.Option.{option_map}
use Rattle.can_frame.specs.Sets.{is_in}
use Rattle.can_frame.specs.declared.item.Item.{Item}
use Rattle.can_frame.specs.declared.item.Item.TheVariants as item
use Rattle.can_filter.specs.Passing.{wants}
use Rattle.can_attempt.specs.declared.class.Class.{Class}
use Rattle.can_attempt.specs.declared.class.Class.TheVariants as class
use Rattle.can_event.specs.declared.bus_config.BusConfig.{BusConfig}
use Rattle.can_event.specs.declared.entry.Entry.{Entry}
use Rattle.can_event.specs.declared.pending.Pending.{Pending}
use Rattle.can_event.specs.declared.received.Received.{Received}
use Rattle.can_event.specs.declared.reply.Reply.{Reply}
use Rattle.can_event.specs.declared.reply.Reply.TheVariants as reply
use Rattle.can_event.specs.declared.attempt.Tried.{Tried}
use Rattle.can_event.specs.declared.attempt.Attempt.TheVariants as attempt
use Rattle.can_bus.specs.Sockets.{is_open, iface_of, capacity_of, filters_of, options_of}
use Rattle.can_bus.specs.Transmit.{sent_by}
use Rattle.can_bus.specs.Posts.{is_looped_back, is_own, sender_in}
use Rattle.can_bus.specs.Queues.{queued_to, taken_from}

-- The copies of frames that reach a socket, and the attempts that made them.

-- The item is a data frame, and not an error message frame (own choice).
abbrev pub is_data : Item → Bool
is_data (item.Data f) = true
is_data (item.Error e) = false

-- The item is a data frame that interface i sent.
abbrev pub is_from : ℕ → Received → Bool
is_from i r = is_data r.item && (r.from == i)

-- The data frames from interface i that socket s got, in order.
abbrev pub received_from : BusConfig → List Entry → ℕ → ℕ → List Received
received_from c past i s = filter (is_from i) (queued_to c past s)

-- The numbers of the data frames from interface i, in order.
abbrev pub numbers_from : ℕ → List Received → List ℕ
numbers_from i rs = map (λ (r : Received). r.number) (filter (is_from i) rs)

-- No number is less than the one before it, and the first is at least a.
abbrev pub NeverFall : ℕ → List ℕ → Type 0
NeverFall a [] = Unit {0}
NeverFall a (n ∷ ns) = (a ≤ n) × NeverFall n ns

-- ---- the attempts that made them

-- The frame of an attempt reaches interface i: the interface accepted it, or gets its own frame back (the kernel's
-- networking/can document, local loopback of sent frames).
abbrev pub comes_to : ℕ → Tried → Option Pending → Bool
comes_to i t p = is_in i t.accepted || ((i == t.winner) && is_looped_back t.class p)

-- Socket s has room for one more waiting item.
abbrev pub has_room : BusConfig → List Entry → ℕ → Bool
has_room c past s = nat_lt (length (queued_to c past s)) (capacity_of past s + length (taken_from past s))

-- An attempt copies its frame to socket s: the socket is open, and the frame reaches its interface, passes its filters
-- and options, and finds room.
abbrev pub is_copied : BusConfig → List Entry → ℕ → Tried → Option Pending → Bool
is_copied c past s t p =
    is_open past s
    && (comes_to (iface_of past s) t p
    && (wants (filters_of past s) (options_of past s) (item.Data t.frame) (is_own (sender_in p) s)
    && has_room c past s))

-- copying after one more entry (own choice).
abbrev pub copying_after : BusConfig → List Entry → ℕ → ℕ → Reply → List Tried → List Tried
copying_after c past i s (reply.Attempted (attempt.Tried t)) before =
    if is_copied c past s t (slice_get (sent_by past t.winner) t.number) && (t.winner == i) then before ++ t ∷ []
    else before
copying_after c past i s _ before = before

-- The attempts won by interface i that copied their frame to socket s, in order.
abbrev pub copying : BusConfig → List Entry → ℕ → ℕ → List Tried
copying c [] i s = []
copying c (e ∷ past) i s = copying_after c past i s e.reply (copying c past i s)

-- The copy that an attempt makes: its frame, the winner, the frame's number and the moment.
abbrev pub copy_of : Tried → Received
copy_of t = record { item = item.Data t.frame; from = t.winner; number = t.number; moment = t.moment }

-- The whole frame went over the bus to each interface that saw no error.
abbrev pub went_over : Class → Bool
went_over class.Done = true
went_over class.LastBit = true
went_over _ = false

-- The relation of two attempts, in this order, that copied frames of one interface to one socket. The numbers do not
-- decrease. If they are equal, the earlier attempt failed only at the last bit.
pub record InTurn (earlier later : Tried) : Type 0 where
  pub rising : earlier.number ≤ later.number
  pub again : earlier.number ≡ later.number → earlier.class ≡ class.LastBit

-- Interface i won the attempt, and had accepted its frame under the attempt's number.
pub record IsOfSent (past : List Entry) (i : ℕ) (t : Tried) : Type 0 where
  pub winner : t.winner ≡ i
  pub frame : option_map (λ (p : Pending). p.frame) (slice_get (sent_by past i) t.number) ≡ Some t.frame
