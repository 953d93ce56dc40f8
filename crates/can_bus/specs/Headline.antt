use Rattle.std.specs.Prelude.{◌≡◌, ℕ, ◌+◌, true, List, ◌∷◌, ◌++◌, length, map, All, AllPairs}
use Rattle.std.specs.List.{range_with_len}
use Rattle.can_attempt.specs.declared.class.Class.TheVariants as class
use Rattle.can_event.specs.declared.bus_config.BusConfig.{BusConfig}
use Rattle.can_event.specs.declared.reply.Closed.{Closed}
use Rattle.can_event.specs.declared.entry.Entry.{Entry}
use Rattle.can_event.specs.declared.socket_id.SocketId.{SocketId}
use Rattle.can_bus.specs.Sockets.{places, iface_of, capacity_of}
use Rattle.can_bus.specs.Transmit.{lost_count}
use Rattle.can_bus.specs.Queues.{queued_to, taken_from, dropped_at, candidates_for}
use Rattle.can_bus.specs.Offers.{Offer, offers_to, with_room, without_room}
use Rattle.can_bus.specs.Copies.{received_from, copying, copy_of, numbers_from, NeverFall, went_over, InTurn, IsOfSent}
use Rattle.can_bus.specs.Repeats.{AtMost32Copies, HadThatFaultAlone}
use Rattle.can_bus.specs.Fates.{frames_with, numbers_given, closing}
use Rattle.can_bus.specs.Fates.Fate.{Lost}

-- The headline: for every list of bus events, the data frames queued to a socket from each sending interface are,
-- in order sent, exactly those that its interface accepted while the socket was open (or, on the sender's own
-- interface, looped back once done), that passed its filters and options and found room, each once, and again
-- only for each attempt whose sole fault was the last bit of end of frame; every lost frame is counted; nothing
-- is queued after close.

-- Socket s was closed after the entries before, and its close returned these counts.
pub record EndsAtClose (c : BusConfig) (before past : List Entry) (s : SocketId) (counts : Closed) : Type 0 where
  -- Each queued item was taken, or is counted as unread.
  pub unread : length (queued_to c before s.0) ≡ length (taken_from before s.0) + counts.unread
  -- Each item without room is counted as dropped.
  pub dropped : counts.dropped ≡ length (dropped_at c before s.0)
  -- Nothing is queued after close.
  pub after : queued_to c past s.0 ≡ queued_to c before s.0

-- The parts of the sentence above, for each sending interface i and socket s.
pub record Headline (c : BusConfig) (past : List Entry) : Type 0 where
  -- "the data frames queued to a socket from each sending interface are exactly those that its interface accepted while
  -- the socket was open, or, on the sender's own interface, looped back once done, that passed its filters and options
  -- and found room": there is one copy for each such attempt, in order.
  pub exact : (i s : ℕ) → received_from c past i s ≡ map copy_of (copying c past i s)
  -- "those": each copied frame is one that the sending interface accepted, under the number of the copy.
  pub sent : (i s : ℕ) → All (IsOfSent past i) (copying c past i s)
  -- "in order sent": the numbers do not decrease.
  pub order : (i s : ℕ) → NeverFall 0 (numbers_from i (queued_to c past s))
  -- "each once, and again only for": of the attempts that copied one frame, all but the last failed at the last bit.
  pub once : (i s : ℕ) → AllPairs InTurn (copying c past i s)
  -- "accepted": each attempt that copied a frame was done or failed at the last bit.
  pub over : (i s : ℕ) → All (λ t. went_over t.class ≡ true) (copying c past i s)
  -- "each attempt whose sole fault was the last bit of end of frame": only such an attempt fails at the last bit.
  pub alone : All HadThatFaultAlone past
  -- "or, on the sender's own interface, looped back once done": on that interface only done attempts copy a frame.
  pub own : (s : ℕ) → All (λ t. t.class ≡ class.Done) (copying c past (iface_of past s) s)
  -- No frame reaches a socket more than 32 times.
  pub few : AtMost32Copies c past
  -- "passed its filters and options": the items offered to a socket, each with the number of items taken before it.
  pub offered : (s : ℕ) → map (λ (o : Offer). o.item) (offers_to c past s) ≡ candidates_for c past s
  -- "found room": an item is queued exactly if fewer items were queued before it than the capacity plus the items
  -- taken.
  pub room : (s : ℕ) → queued_to c past s ≡ with_room (capacity_of past s) 0 (offers_to c past s)
  -- "every lost frame is counted", for lack of receive room: every other item is dropped, and no more.
  pub dropped : (s : ℕ) → dropped_at c past s ≡ without_room (capacity_of past s) 0 (offers_to c past s)
  -- So each offered item is queued or dropped.
  pub counted : (s : ℕ) → length (candidates_for c past s) ≡ length (queued_to c past s) + length (dropped_at c past s)
  -- "every lost frame is counted", by bus off or because an interface goes down: the interface counts each lost frame.
  pub lost : (i : ℕ) → frames_with Lost past i ≡ lost_count past i
  -- "every lost frame is counted", unread at close, and "nothing is queued after close", with any later entries.
  pub closed : (later before : List Entry) (s : SocketId) (k : Closed) → past ≡ later ++ closing s k ∷ before
      → EndsAtClose c before past s k
  -- "after close": no socket number is used twice.
  pub numbers : numbers_given past ≡ range_with_len 0 (length (places past))
