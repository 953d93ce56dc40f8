use Rattle.std.specs.Prelude.{ℕ, ◌^◌, ◌==◌, nat_le, Bool, true, false, not, ◌||◌, Some, None}
use Rattle.can_frame.specs.declared.iface.IfaceSet.{IfaceSet}
use Rattle.can_event.specs.declared.event.Event.{Event}
use Rattle.can_event.specs.declared.event.Event.TheVariants.{Open, Close, SetOption, Send, Receive, Attempt}
use Rattle.can_event.specs.declared.event.Event.TheVariants.{Restart, Down}
use Rattle.can_event.specs.declared.reply.Reply.{Reply}
use Rattle.can_event.specs.declared.attempt.Attempt.TheVariants as attempt
use Rattle.can_event.specs.declared.reply.Reply.TheVariants as reply

-- The entries that need a box: they do not fit in 32 bytes, and take additional memory (own choice).

-- The number of a frame does not fit in 32 bits. No frame of a legal record has such a number.
abbrev pub is_large : ℕ → Bool
is_large number = nat_le (2 ^ 32) number

-- No interface except the winner went bus off.
abbrev pub is_off_alone : ℕ → IfaceSet → Bool
is_off_alone winner off = (off.0 == 0) || (off.0 == 2 ^ winner)

-- The entry needs a box. This holds for the filters of a socket, and for entries that no bus returns: a reply of
-- another kind than the event, an attempt with another moment, an attempt in which another interface than the winner
-- went bus off, or a number that no record reaches.
abbrev pub needs_box : Event → Reply → Bool
needs_box (Open i capacity) (reply.Opened s) = false
needs_box (Open i capacity) (reply.Refused why) = false
needs_box (Close s) (reply.Closed counts) = false
needs_box (Close s) (reply.Refused why) = false
needs_box (SetOption s option) reply.Done = false
needs_box (SetOption s option) (reply.Refused why) = false
needs_box (Send s frame) (reply.Sent number) = is_large number
needs_box (Send s frame) (reply.Refused why) = false
needs_box (Receive s) (reply.Received None) = false
needs_box (Receive s) (reply.Received (Some r)) = is_large r.number
needs_box (Receive s) (reply.Refused why) = false
needs_box (Attempt m v) (reply.Attempted (attempt.Idle restarted)) = false
needs_box (Attempt m v) (reply.Attempted (attempt.Tried t)) =
    is_large t.number || not (t.moment == m) || not (is_off_alone t.winner t.off)
needs_box (Attempt m v) (reply.Refused why) = false
needs_box (Restart i m) reply.Done = false
needs_box (Restart i m) (reply.Refused why) = false
needs_box (Down i m) reply.Done = false
needs_box (Down i m) (reply.Refused why) = false
needs_box _ _ = true
