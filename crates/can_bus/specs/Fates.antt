use Rattle.std.specs.Prelude.{ℕ, ◌==◌, nat_le, Bool, true, false, ◌&&◌, List}
use Rattle.std.specs.Prelude.{[], ◌∷◌, ◌++◌, length, count_by, if◌then◌else◌}
use Rattle.std.specs.List.{list_any, range_with_len}
use Rattle.can_frame.specs.Sets.{is_in}
use Rattle.can_event.specs.declared.entry.Entry.{Entry}
use Rattle.can_event.specs.declared.event.Event.{Event}
use Rattle.can_event.specs.declared.event.Event.TheVariants.{Open, Close, Restart, Down}
use Rattle.can_event.specs.declared.reply.Reply.{Reply}
use Rattle.can_event.specs.declared.reply.Reply.TheVariants as reply
use Rattle.can_event.specs.declared.reply.Closed.{Closed}
use Rattle.can_event.specs.declared.socket_id.SocketId.{SocketId}
use Rattle.can_event.specs.declared.attempt.Tried.{Tried}
use Rattle.can_event.specs.declared.attempt.Attempt.TheVariants as attempt
use Rattle.can_attempt.specs.Attempts.{is_done}
use Rattle.can_bus.specs.Transmit.{sent_by, gone_count}
use Rattle.can_record.specs.Tapes.{tape}

-- The fates of frames, and the events of sockets and interfaces, as the laws name them.

-- The fate of a frame that was accepted for sending.
pub data Fate : Type 0 where
  Waiting : Fate
  Done : Fate
  Lost : Fate

-- The two fates are the same (own choice).
abbrev pub is_fate : Fate → Fate → Bool
is_fate Waiting Waiting = true
is_fate Done Done = true
is_fate Lost Lost = true
is_fate _ _ = false

-- An attempt of interface i with this number was done.
abbrev pub was_done : List Entry → ℕ → ℕ → Bool
was_done past i n = list_any (λ (t : Tried). (t.winner == i) && (is_done t.class && (t.number == n))) (tape past)

-- Frame n of interface i waits until it leaves the queue; after that it is done or lost.
abbrev pub fate_of : List Entry → ℕ → ℕ → Fate
fate_of past i n = if nat_le (gone_count past i) n then Waiting else if was_done past i n then Done else Lost

-- The number of frames accepted on interface i that have this fate.
abbrev pub frames_with : Fate → List Entry → ℕ → ℕ
frames_with fate past i = count_by (λ n. is_fate (fate_of past i n) fate) (range_with_len 0 (length (sent_by past i)))

-- Interface i is taken down.
abbrev pub is_taken_down : ℕ → Event → Reply → Bool
is_taken_down i (Down k m) reply.Done = k == i
is_taken_down i _ _ = false

-- Interface i goes bus off in an attempt, or is taken down.
abbrev pub goes_silent : ℕ → Event → Reply → Bool
goes_silent i e (reply.Attempted (attempt.Tried t)) = is_in i t.off
goes_silent i e r = is_taken_down i e r

-- numbers_given after one more entry (own choice).
abbrev pub given_after : Event → Reply → List ℕ → List ℕ
given_after (Open i capacity) (reply.Opened s) before = before ++ s.0 ∷ []
given_after _ _ before = before

-- The numbers of the opened sockets, in order.
abbrev pub numbers_given : List Entry → List ℕ
numbers_given [] = []
numbers_given (e ∷ past) = given_after e.event e.reply (numbers_given past)

-- The entry that opens a socket.
abbrev pub opening : ℕ → ℕ → SocketId → Entry
opening i capacity s = record { event = Open i capacity; reply = reply.Opened s }

-- The entry that closes a socket.
abbrev pub closing : SocketId → Closed → Entry
closing s counts = record { event = Close s; reply = reply.Closed counts }

-- Interface i is restarted, by hand or by an attempt.
abbrev pub is_restart_of : ℕ → Event → Reply → Bool
is_restart_of i e (reply.Attempted (attempt.Idle restarted)) = is_in i restarted
is_restart_of i e (reply.Attempted (attempt.Tried t)) = is_in i t.restarted
is_restart_of i (Restart k m) r = k == i
is_restart_of i _ _ = false
