use Rattle.std.specs.Prelude.{ℕ, zero, suc, ◌^◌, nat_lt, ◌==◌, bit_and, Bool, true, false, List, [], ◌∷◌, ◌++◌}
use Rattle.std.specs.Prelude.{length, take, drop, codes, Option, Some, None, Result, Ok, Err, ◌≡◌, if◌then◌else◌}
use denote.Ref.{Bor}
use Rattle.std.specs.Str.{bytes_eq}
use Rattle.can_frame.specs.Moments.{moment_in}
use Rattle.can_frame.specs.Numbers.{number_in}
use Rattle.can_frame.specs.Frames.{CanFrame}
use Rattle.can_frame.specs.FrameGuess.{item_in}
use Rattle.can_frame.specs.declared.item.Item.{Item}
use Rattle.can_frame.specs.declared.item.Item.TheVariants as item
use Rattle.can_frame.specs.declared.iface.IfaceSet.{IfaceSet}
use Rattle.can_frame.specs.Sets.{no_ifaces}
use Rattle.can_filter.specs.Filters.{CanFilter}
use Rattle.can_fault.specs.declared.verdict.GlobalKind.TheVariants as global
use Rattle.can_fault.specs.declared.verdict.LocalKind.TheVariants as local
use Rattle.can_fault.specs.declared.verdict.Verdict.{Verdict}
use Rattle.can_fault.specs.declared.verdict.Verdict.TheVariants as verdict
use Rattle.can_attempt.specs.declared.ack_mode.AckMode.{AckMode}
use Rattle.can_attempt.specs.declared.ack_mode.AckMode.TheVariants as ack
use Rattle.can_attempt.specs.declared.class.Class.{Class}
use Rattle.can_attempt.specs.declared.class.Class.TheVariants as class
use Rattle.can_event.specs.declared.socket_id.SocketId.{SocketId}
use Rattle.can_event.specs.declared.bus_config.BusConfig.{BusConfig}
use Rattle.can_event.specs.declared.opt.Opt.{Opt}
use Rattle.can_event.specs.declared.opt.Opt.TheVariants as opt
use Rattle.can_event.specs.declared.event.Event.{Event}
use Rattle.can_event.specs.declared.event.Event.TheVariants.{Open, Close, SetFilters, SetOption}
use Rattle.can_event.specs.declared.event.Event.TheVariants.{Send, Receive, Attempt, Restart, Down}
use Rattle.can_event.specs.declared.refusal.Refusal.{Refusal}
use Rattle.can_event.specs.declared.refusal.Refusal.TheVariants as refusal
use Rattle.can_event.specs.declared.reply.Reply.{Reply}
use Rattle.can_event.specs.declared.attempt.Attempt.TheVariants as attempt
use Rattle.can_event.specs.declared.reply.Reply.TheVariants as reply
use Rattle.can_event.specs.declared.entry.Entry.{Entry}
use Rattle.can_record_text.specs.declared.fault.Unread.{Unread}
use Rattle.can_record_text.specs.declared.fault.Unread.TheVariants as unread
use Rattle.can_record_text.specs.declared.version.Version.{Version}
use Rattle.can_record_text.specs.declared.version.Version.TheVariants as version
use Rattle.can_record_text.specs.inner.Words.{word, after}
use Rattle.can_record_text.specs.inner.Numerals.{long_in}

-- The entry that a line seems to spell. The reader spells it again and compares, so these definitions may accept too
-- much (own choice).

-- A value with the rest of the text.
abbrev pub Found : Type 0 → Type 0
Found A = Option (A × List ℕ)

-- A value that was read, with the rest of the text.
abbrev pub with_rest : {A : Type 0} → Option (A × Bor (List ℕ)) → Found A
with_rest None = None
with_rest (Some x) = Some (x.0, x.1.now)

-- The call returns the value that reading gives, unless memory was refused.
abbrev pub Gives : {X : Type 0} → Result X Unread → Option X → Type 0
Gives (Ok x) read = read ≡ Some x
Gives (Err unread.NoMemory) read = Unit {0}
Gives (Err unread.Bad) read = read ≡ None

-- The call returns the value that reading gives with the rest of the text, unless memory was refused.
abbrev pub Finds : {A : Type 0} → Result (A × Bor (List ℕ)) Unread → Found A → Type 0
Finds (Ok x) read = read ≡ Some (x.0, x.1.now)
Finds (Err why) read = Gives (Err why) read

infixl 10 ◌>>=◌
-- The second function applied to the result of the first, if there is one.
abbrev pub ◌>>=◌ : {A B : Type 0} → Option A → (A → Option B) → Option B
None >>= f = None
(Some x) >>= f = f x

-- Reads a number below the limit.
unfoldable pub number_at : ℕ → List ℕ → Option (ℕ × List ℕ)
number_at limit t = number_in 10 19 (word t) >>= λ n. if nat_lt n limit then Some (n, after t) else None

-- Reads a number of 64 bits.
unfoldable pub long_at : List ℕ → Option (ℕ × List ℕ)
long_at t = long_in (word t) >>= λ n. Some (n, after t)

-- Reads a word of 32 bits in hexadecimal.
unfoldable pub mask_at : List ℕ → Option (ℕ × List ℕ)
mask_at t = number_in 16 8 (word t) >>= λ n. Some (n, after t)

-- Reads a moment.
unfoldable pub moment_at : List ℕ → Option (ℕ × List ℕ)
moment_at t = moment_in (word t) >>= λ m. Some (m, after t)

-- Reads the number of a socket.
unfoldable pub socket_at : List ℕ → Option (SocketId × List ℕ)
socket_at t = number_at (2 ^ 32) t >>= λ s. Some (record { 0 = s.0 }, s.1)

-- Reads a set of interfaces.
unfoldable pub set_at : List ℕ → Option (IfaceSet × List ℕ)
set_at t = number_in 16 4 (word t) >>= λ n. Some (record { 0 = n }, after t)

-- Reads a flag, 0 or 1.
unfoldable pub flag_at : List ℕ → Option (Bool × List ℕ)
flag_at t =
    if bytes_eq (word t) (codes "0") then Some (false, after t)
    else if bytes_eq (word t) (codes "1") then Some (true, after t)
    else None

-- Reads an item.
unfoldable pub item_at : List ℕ → Option (Item × List ℕ)
item_at t = item_in (word t) >>= λ i. Some (i, after t)

-- The frame in an item, unless the item is an error message frame.
abbrev pub frame_of_item : Item → Option CanFrame
frame_of_item (item.Data f) = Some f
frame_of_item (item.Error e) = None

-- Reads a frame.
unfoldable pub frame_at : List ℕ → Option (CanFrame × List ℕ)
frame_at t = item_at t >>= λ i. frame_of_item i.0 >>= λ f. Some (f, i.1)

-- Reads the name of an option and its value.
unfoldable pub option_at : List ℕ → Option (Opt × List ℕ)
option_at t =
    if bytes_eq (word t) (codes "loopback") then (flag_at (after t) >>= λ on. Some (opt.Loopback on.0, on.1))
    else if bytes_eq (word t) (codes "recvown") then (flag_at (after t) >>= λ on. Some (opt.RecvOwn on.0, on.1))
    else if bytes_eq (word t) (codes "join") then (flag_at (after t) >>= λ on. Some (opt.Join on.0, on.1))
    else if bytes_eq (word t) (codes "fd") then (flag_at (after t) >>= λ on. Some (opt.FdFrames on.0, on.1))
    else if bytes_eq (word t) (codes "errmask") then (mask_at (after t) >>= λ m. Some (opt.ErrMask m.0, m.1))
    else None

-- Reads a set of interfaces after this many bytes of a word.
unfoldable pub set_from : ℕ → List ℕ → Option (IfaceSet × List ℕ)
set_from n t = set_at (drop n t)

-- The text begins with these bytes.
abbrev pub begins_with : List ℕ → List ℕ → Bool
begins_with front t = bytes_eq (take (length front) t) front

-- Reads a verdict.
unfoldable pub verdict_at : List ℕ → Option (Verdict × List ℕ)
verdict_at t =
    if bytes_eq (word t) (codes "good") then Some (verdict.Good, after t)
    else if bytes_eq (word t) (codes "global-bit") then Some (verdict.Global global.Bit, after t)
    else if bytes_eq (word t) (codes "global-form") then Some (verdict.Global global.Form, after t)
    else if bytes_eq (word t) (codes "lastbit") then Some (verdict.LastBit, after t)
    else if begins_with (codes "local-stuff:") t then (set_from 12 t >>= λ s. Some (verdict.Local s.0 local.Stuff, s.1))
    else if begins_with (codes "local-crc:") t then (set_from 10 t >>= λ s. Some (verdict.Local s.0 local.Crc, s.1))
    else if begins_with (codes "local-form:") t then (set_from 11 t >>= λ s. Some (verdict.Local s.0 local.Form, s.1))
    else None

-- Reads the class of an attempt.
unfoldable pub class_at : List ℕ → Option (Class × List ℕ)
class_at t =
    if bytes_eq (word t) (codes "done") then Some (class.Done, after t)
    else if bytes_eq (word t) (codes "lastbit") then Some (class.LastBit, after t)
    else if bytes_eq (word t) (codes "destroyed") then Some (class.Destroyed, after t)
    else if bytes_eq (word t) (codes "noack") then Some (class.NoAck, after t)
    else None

-- The refusal with this name.
unfoldable pub refusal_in : List ℕ → Option Refusal
refusal_in w =
    if bytes_eq w (codes "no-interface") then Some refusal.NoInterface
    else if bytes_eq w (codes "bad-capacity") then Some refusal.BadCapacity
    else if bytes_eq w (codes "too-many-sockets") then Some refusal.TooManySockets
    else if bytes_eq w (codes "no-socket") then Some refusal.NoSocket
    else if bytes_eq w (codes "fd-off") then Some refusal.FdOff
    else if bytes_eq w (codes "bus-off") then Some refusal.BusOff
    else if bytes_eq w (codes "no-buffers") then Some refusal.NoBuffers
    else if bytes_eq w (codes "not-bus-off") then Some refusal.NotBusOff
    else if bytes_eq w (codes "interface-down") then Some refusal.Down
    else None

-- Reads the counts of a closed socket.
unfoldable pub closed_at : List ℕ → Option (Reply × List ℕ)
closed_at t = do
  u ← long_at t
  d ← long_at u.1
  Some (reply.Closed (record { unread = u.0; dropped = d.0 }), d.1)

-- Reads the reply for a received frame.
unfoldable pub data_at : List ℕ → Option (Reply × List ℕ)
data_at t = do
  i ← number_at 16 t
  n ← long_at i.1
  f ← frame_at n.1
  m ← moment_at f.1
  Some (reply.Received (Some (record { item = item.Data f.0; from = i.0; number = n.0; moment = m.0 })), m.1)

-- Reads the reply for a received error message frame.
unfoldable pub error_at : List ℕ → Option (Reply × List ℕ)
error_at t = do
  i ← number_at 16 t
  e ← item_at i.1
  m ← moment_at e.1
  Some (reply.Received (Some (record { item = e.0; from = i.0; number = 0; moment = m.0 })), m.1)

-- The rest of a text from the byte that ends the first word.
abbrev pub past_word : List ℕ → List ℕ
past_word t = drop (length (word t)) t

-- Reads the interfaces that an attempt restarted, after the other words of the reply.
unfoldable pub restarted_at : List ℕ → Option (IfaceSet × List ℕ)
restarted_at t =
    if begins_with (codes " restarted ") (past_word t) then set_from 11 (past_word t) else Some (no_ifaces, after t)

-- Reads the reply of an attempt at this moment that tried a frame.
unfoldable pub tried_at : ℕ → List ℕ → Option (Reply × List ℕ)
tried_at moment t = do
  w ← number_at 16 t
  n ← long_at w.1
  f ← frame_at n.1
  c ← class_at f.1
  a ← set_at c.1
  o ← set_at a.1
  r ← restarted_at a.1
  Some (
    reply.Attempted (attempt.Tried (record {
      moment = moment;
      winner = w.0;
      number = n.0;
      frame = f.0;
      class = c.0;
      accepted = a.0;
      off = o.0;
      restarted = r.0;
    })),
    r.1,
  )

-- The reply that this single word spells.
unfoldable pub fixed_in : List ℕ → Option Reply
fixed_in w =
    if bytes_eq w (codes "ok") then Some reply.Done
    else if bytes_eq w (codes "none") then Some (reply.Received None)
    else (refusal_in w >>= λ why. Some (reply.Refused why))

-- Reads a reply: to an attempt at this moment, or to another event if there is no moment.
unfoldable pub reply_at : Option ℕ → List ℕ → Option (Reply × List ℕ)
reply_at moment t =
    if bytes_eq (word t) (codes "number") then (long_at (after t) >>= λ n. Some (reply.Sent n.0, n.1))
    else if bytes_eq (word t) (codes "data") then data_at (after t)
    else if bytes_eq (word t) (codes "error") then error_at (after t)
    else if bytes_eq (word t) (codes "idle")
    then (restarted_at t >>= λ r. Some (reply.Attempted (attempt.Idle r.0), r.1))
    else if bytes_eq (word t) (codes "tried") then (moment >>= λ m. tried_at m (after t))
    else if bytes_eq (word t) (codes "socket") then (socket_at (after t) >>= λ s. Some (reply.Opened s.0, s.1))
    else if bytes_eq (word t) (codes "closed") then closed_at (after t)
    else (fixed_in (word t) >>= λ r. Some (r, after t))

-- The moment of an attempt, or None for another event.
abbrev pub moment_of : Event → Option ℕ
moment_of (Attempt m v) = Some m
moment_of _ = None

-- Reads one more filter.
unfoldable pub filter_at : List CanFilter → List ℕ → Option (List CanFilter × List ℕ)
filter_at fs t = do
  i ← mask_at t
  m ← mask_at i.1
  if bit_and m.0 (2 ^ 29) == 0 then Some (fs ++ record { id = i.0; mask = m.0 } ∷ [], m.1) else None

-- Reads this many more filters.
unfoldable pub filters_at : List CanFilter → ℕ → List ℕ → Option (List CanFilter × List ℕ)
filters_at fs zero t = Some (fs, t)
filters_at fs (suc n) t = filter_at fs t >>= λ f. filters_at f.0 n f.1

-- The filters that were read are added after those already in the list, unless memory was refused.
abbrev pub GivesFilters : Result (Bor (List ℕ)) Unread → List CanFilter → Option (List CanFilter × List ℕ) → Type 0
GivesFilters (Ok rest) filters read = read ≡ Some (filters, rest.now)
GivesFilters (Err unread.NoMemory) filters read = Unit {0}
GivesFilters (Err unread.Bad) filters read = read ≡ None

-- Reads an event that sets the filters of a socket, after its first word.
unfoldable pub set_filters_at : List ℕ → Option (Event × List ℕ)
set_filters_at t = do
  s ← socket_at t
  n ← number_at 513 s.1
  fs ← filters_at [] n.0 n.1
  Some (SetFilters s.0 fs.0, fs.1)

-- Reads an event that opens, closes or configures a socket, or that restarts an interface or takes it down. The first
-- word of its line is given.
unfoldable pub setting_at : List ℕ → List ℕ → Option (Event × List ℕ)
setting_at w t =
    if bytes_eq w (codes "open")
    then (number_at 16 t >>= λ i. number_at (2 ^ 32) i.1 >>= λ c. Some (Open i.0 c.0, c.1))
    else if bytes_eq w (codes "close") then (socket_at t >>= λ s. Some (Close s.0, s.1))
    else if bytes_eq w (codes "option")
    then (socket_at t >>= λ s. option_at s.1 >>= λ o. Some (SetOption s.0 o.0, o.1))
    else if bytes_eq w (codes "restart")
    then (number_at 16 t >>= λ i. moment_at i.1 >>= λ m. Some (Restart i.0 m.0, m.1))
    else if bytes_eq w (codes "down")
    then (number_at 16 t >>= λ i. moment_at i.1 >>= λ m. Some (Down i.0 m.0, m.1))
    else None

-- Reads any event that does not set filters. The first word of its line is given.
unfoldable pub plain_at : List ℕ → List ℕ → Option (Event × List ℕ)
plain_at w t =
    if bytes_eq w (codes "attempt") then (moment_at t >>= λ m. verdict_at m.1 >>= λ v. Some (Attempt m.0 v.0, v.1))
    else if bytes_eq w (codes "receive") then (socket_at t >>= λ s. Some (Receive s.0, s.1))
    else if bytes_eq w (codes "send") then (socket_at t >>= λ s. frame_at s.1 >>= λ f. Some (Send s.0 f.0, f.1))
    else setting_at w t

-- Reads the moment and the verdict of an attempt, after its first word.
unfoldable pub attempted_in : List ℕ → Option (ℕ × Verdict)
attempted_in t = moment_at t >>= λ m. verdict_at m.1 >>= λ v. Some (m.0, v.0)

-- Reads the socket and the frame of a send call, after its first word.
unfoldable pub sent_in : List ℕ → Option (SocketId × CanFrame)
sent_in t = socket_at t >>= λ s. frame_at s.1 >>= λ f. Some (s.0, f.0)

-- Reads the event that a line seems to spell.
unfoldable pub event_at : List ℕ → Option (Event × List ℕ)
event_at t = if bytes_eq (word t) (codes "filters") then set_filters_at (after t) else plain_at (word t) (after t)

-- The line seems to spell this event.
abbrev pub SeemsToBe : List ℕ → Event → Type 0
SeemsToBe t e = (rest : List ℕ) × (event_at t ≡ Some (e, rest))

-- Reads the entry that a line seems to spell.
unfoldable pub entry_at : List ℕ → Option Entry
entry_at t = do
  e ← event_at t
  r ← reply_at (moment_of e.0) (after e.1)
  Some (record { event = e.0; reply = r.0 })

-- Reads the acknowledgement mode.
unfoldable pub ack_at : List ℕ → Option (AckMode × List ℕ)
ack_at t =
    if bytes_eq (word t) (codes "always") then Some (ack.Always, after t)
    else if bytes_eq (word t) (codes "peers") then Some (ack.Peers, after t)
    else None

-- Reads the number of attempts until an automatic restart; 0 (never) in version 1.
unfoldable pub auto_restart_at : Version → List ℕ → Option (ℕ × List ℕ)
auto_restart_at version.One t = Some (0, t)
auto_restart_at version.Two t = number_at (2 ^ 32) t
auto_restart_at version.Three t = number_at (2 ^ 32) t
auto_restart_at version.Four t = number_at (2 ^ 32) t
auto_restart_at version.Five t = number_at (2 ^ 32) t
auto_restart_at version.Six t = number_at (2 ^ 32) t

-- Reads the configuration of a bus.
unfoldable pub config_at : Version → List ℕ → Option BusConfig
config_at v t = do
  i ← number_at 256 (after t)
  a ← ack_at i.1
  r ← set_at a.1
  x ← number_at (2 ^ 32) r.1
  l ← number_at (2 ^ 32) x.1
  n ← auto_restart_at v l.1
  Some (record { ifaces = i.0; ack = a.0; reporting = r.0; tx_capacity = x.0; limit = l.0; auto_restart = n.0 })
