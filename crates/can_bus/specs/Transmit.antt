use Rattle.std.specs.Prelude.{ℕ, ◌+◌, ◌==◌, ◌&&◌, List, [], ◌∷◌, ◌++◌, length, slice_get, Option, ◌-◌, if◌then◌else◌}
use Rattle.can_frame.specs.Sets.{is_in}
use Rattle.can_event.specs.declared.event.Event.{Event}
use Rattle.can_event.specs.declared.event.Event.TheVariants.{Send, Down}
use Rattle.can_event.specs.declared.reply.Reply.{Reply}
use Rattle.can_event.specs.declared.attempt.Attempt.TheVariants as attempt
use Rattle.can_event.specs.declared.reply.Reply.TheVariants as reply
use Rattle.can_event.specs.declared.refusal.Refusal.TheVariants as refusal
use Rattle.can_event.specs.declared.entry.Entry.{Entry}
use Rattle.can_event.specs.declared.pending.Pending.{Pending}
use Rattle.can_attempt.specs.Attempts.{is_done}
use Rattle.can_bus.specs.Sockets.{iface_of, options_of}

-- The transmit queues of a bus's interfaces, from its history.

-- sent_by after one more entry (own choice).
abbrev pub sent_after : List Entry → ℕ → Event → Reply → List Pending → List Pending
sent_after past i (Send s frame) (reply.Sent n) before =
    if iface_of past s.0 == i
    then before ++ record { frame = frame; socket = s; loopback = (options_of past s.0).loopback } ∷ []
    else before
sent_after past i _ _ before = before

-- The frames accepted for sending on interface i, in order; a frame's number is its place. Each frame keeps its sending
-- socket, and the loopback option that this socket had (own choice).
abbrev pub sent_by : List Entry → ℕ → List Pending
sent_by [] i = []
sent_by (e ∷ past) i = sent_after past i e.event e.reply (sent_by past i)

-- gone_count after one more entry, if this many frames were sent (own choice).
abbrev pub gone_after : Event → Reply → ℕ → ℕ → ℕ → ℕ
gone_after e (reply.Attempted (attempt.Tried t)) i sent before =
    if is_in i t.off then sent else if (t.winner == i) && is_done t.class then before + 1 else before
gone_after (Down k m) reply.Done i sent before = if k == i then sent else before
gone_after _ _ i sent before = before

-- The number of frames that have left the transmit queue of interface i. A frame leaves when its attempt is done; all
-- frames leave when the interface goes bus off or down.
abbrev pub gone_count : List Entry → ℕ → ℕ
gone_count [] i = 0
gone_count (e ∷ past) i = gone_after e.event e.reply i (length (sent_by past i)) (gone_count past i)

-- The number of frames that wait in the transmit queue of interface i.
abbrev pub waiting_count : List Entry → ℕ → ℕ
waiting_count past i = length (sent_by past i) - gone_count past i

-- The oldest frame in the transmit queue of interface i.
abbrev pub head_of : List Entry → ℕ → Option Pending
head_of past i = slice_get (sent_by past i) (gone_count past i)

-- done_count after one more entry (own choice).
abbrev pub done_after : Reply → ℕ → ℕ → ℕ
done_after (reply.Attempted (attempt.Tried t)) i before =
    if (t.winner == i) && is_done t.class then before + 1 else before
done_after _ i before = before

-- The number of done frames of interface i: its attempts of class Done.
abbrev pub done_count : List Entry → ℕ → ℕ
done_count [] i = 0
done_count (e ∷ past) i = done_after e.reply i (done_count past i)

-- The number of frames lost when interface i went bus off or down: they have left the queue and are not done.
abbrev pub lost_count : List Entry → ℕ → ℕ
lost_count past i = gone_count past i - done_count past i

-- refused_count after one more entry (own choice).
abbrev pub refused_after : List Entry → ℕ → Event → Reply → ℕ → ℕ
refused_after past i (Send s frame) (reply.Refused refusal.NoBuffers) before =
    if iface_of past s.0 == i then before + 1 else before
refused_after past i _ _ before = before

-- The number of frames that found the transmit queue of interface i full.
abbrev pub refused_count : List Entry → ℕ → ℕ
refused_count [] i = 0
refused_count (e ∷ past) i = refused_after past i e.event e.reply (refused_count past i)
