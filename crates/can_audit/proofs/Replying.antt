use Rattle.std.proofs.Common.{◌≡◌, ◌≢◌, ℕ, ◌+◌, ◌-◌, ◌<◌, ◌≤◌, ◌==◌, nat_le, Bool, true, false, List, [], ◌∷◌, ◌++◌, length, drop, get_or, reverse, slice_get, if◌then◌else◌, refl, sym, ap, ◌∙◌, arith, append_assoc, append-nil}
use Rattle.std.specs.List.{list_any}
use Rattle.std.proofs.lemmas.Bool.{cond-true, cond-false, le-leb, lt-leb, leb-false, eq-eqb, ne_eqb}
use Rattle.std.proofs.lemmas.List.{drop_more, drop_all, reverse-append, length-reverse}
use Rattle.can_frame.specs.Frames.{CanFrame}
use Rattle.can_confine.specs.Confinement.{ErrorCounts, state_of, is_down, is_off, is_silent}
use Rattle.can_confine.specs.declared.state.State.{State}
use Rattle.can_attempt.specs.declared.nodes.Nodes.{Nodes}
use Rattle.can_attempt.specs.Attempts.{counts_at}
use Rattle.can_event.specs.declared.bus_config.BusConfig.{BusConfig}
use Rattle.can_event.specs.declared.entry.Entry.{Entry}
use Rattle.can_event.specs.declared.event.Event.{Event}
use Rattle.can_event.specs.declared.event.Event.TheVariants as event
use Rattle.can_event.specs.declared.received.Received.{Received}
use Rattle.can_event.specs.declared.reply.Reply.{Reply}
use Rattle.can_event.specs.declared.reply.Reply.TheVariants as reply
use Rattle.can_event.specs.declared.refusal.Refusal.TheVariants as refusal
use Rattle.can_event.specs.declared.socket_id.SocketId.{SocketId}
use Rattle.can_bus.specs.Counters.{state_at}
use Rattle.can_bus.specs.Legal.{lacks_fd, legal_reply}
use Rattle.can_bus.specs.Queues.{queued_to, dropped_at, taken_from}
use Rattle.can_bus.specs.Sockets.{Place, places, open_sockets, is_open, iface_of, options_of, iface_in}
use Rattle.can_bus.specs.State.{kept_nodes}
use Rattle.can_bus.specs.Transmit.{sent_by, gone_count}
use Rattle.can_bus.proofs.OffFacts.{is_open-iface}
use Rattle.can_audit.proofs.Counting.{silent-kept, state-kept}
use Rattle.can_event.specs.Replies.{entry_of}
use Rattle.can_replay.specs.Histories.{IsHistory}
use Rattle.can_replay.specs.Replies.{reply_after, entries_after, replies_after}

-- Every reply follows from the entries before it.

-- ---- restarts

pub restart-silent : (c : BusConfig) (past : List Entry) (i m : ℕ) (nodes : Nodes) (silent : Bool) → IsHistory c past → i < c.ifaces → nodes ≡ kept_nodes c past → silent ≡ is_silent (state_of (counts_at nodes i)) → silent ≡ true → reply.Done ≡ legal_reply c past (event.Restart i m)
restart-silent c past i m nodes silent h below are is is_true =
    let here : is_silent (state_at c past i) ≡ true = sym (silent-kept c past nodes i silent (omega (arith, below, h.proper.few_ifaces)) are is) ∙ is_true in
    sym (cond-false (nat_le c.ifaces i) _ _ (lt-leb c.ifaces i below) ∙ cond-true (is_silent (state_at c past i)) _ _ here)

pub restart-live : (c : BusConfig) (past : List Entry) (i m : ℕ) (nodes : Nodes) (silent : Bool) → IsHistory c past → i < c.ifaces → nodes ≡ kept_nodes c past → silent ≡ is_silent (state_of (counts_at nodes i)) → silent ≡ false → reply.Refused refusal.NotBusOff ≡ legal_reply c past (event.Restart i m)
restart-live c past i m nodes silent h below are is live =
    let here : is_silent (state_at c past i) ≡ false = sym (silent-kept c past nodes i silent (omega (arith, below, h.proper.few_ifaces)) are is) ∙ live in
    sym (cond-false (nat_le c.ifaces i) _ _ (lt-leb c.ifaces i below) ∙ cond-false (is_silent (state_at c past i)) _ _ here)

-- ---- calls on an open socket

-- the socket is open, because its number is in the list
pub opened : (past : List Entry) (numbers : List ℕ) (s : ℕ) (found : Bool) → numbers ≡ open_sockets past → found ≡ list_any (λ k. k == s) numbers → found ≡ is_open past s
opened past numbers s found are is = is ∙ ap (list_any (λ k. k == s)) are

pub closed : (c : BusConfig) (past : List Entry) (s : SocketId) (queued dropped taken : List Received) (unread lost : ℕ) → is_open past s.0 ≡ true
    → queued ≡ queued_to c past s.0 → dropped ≡ dropped_at c past s.0 → taken ≡ taken_from past s.0 → unread ≡ length queued - length taken → lost ≡ length dropped
    → reply.Closed (record { unread = unread; dropped = lost }) ≡ legal_reply c past (event.Close s)
closed c past s queued dropped taken unread lost there queued_are dropped_are taken_are unread_is lost_is =
    ap (λ (n : ℕ). reply.Closed (record { unread = n; dropped = lost })) (unread_is ∙ ap (λ (rs : List Received). length rs - length taken) queued_are ∙ ap (λ (rs : List Received). length (queued_to c past s.0) - length rs) taken_are)
    ∙ ap (λ (n : ℕ). reply.Closed (record { unread = length (queued_to c past s.0) - length (taken_from past s.0); dropped = n })) (lost_is ∙ ap length dropped_are)
    ∙ sym (cond-true (is_open past s.0) _ _ there)

pub received : (c : BusConfig) (past : List Entry) (s : SocketId) (queued taken : List Received) → is_open past s.0 ≡ true → queued ≡ queued_to c past s.0 → taken ≡ taken_from past s.0 → reply.Received (slice_get queued (length taken)) ≡ legal_reply c past (event.Receive s)
received c past s queued taken there queued_are taken_are =
    ap (λ (rs : List Received). reply.Received (slice_get rs (length taken))) queued_are
    ∙ ap (λ (rs : List Received). reply.Received (slice_get (queued_to c past s.0) (length rs))) taken_are
    ∙ sym (cond-true (is_open past s.0) _ _ there)

-- ---- sends

-- the socket is open on this interface
pub record IsOn (past : List Entry) (s i : ℕ) : Type 0 where
  pub there : is_open past s ≡ true
  pub iface : i ≡ iface_of past s

pub is-on : (past : List Entry) (numbers : List ℕ) (ps : List Place) (s i : ℕ) (found : Bool) → numbers ≡ open_sockets past → ps ≡ places past → found ≡ list_any (λ k. k == s) numbers → found ≡ true → i ≡ iface_in (slice_get ps s) → IsOn past s i
is-on past numbers ps s i found numbers_are places_are is is_true iface_is = record {
  there = sym (opened past numbers s found numbers_are is) ∙ is_true;
  iface = iface_is ∙ ap (λ (qs : List Place). iface_in (slice_get qs s)) places_are;
}

-- the interface of the socket exists
few-on : (c : BusConfig) (past : List Entry) (s i : ℕ) → IsHistory c past → IsOn past s i → i < 16
few-on c past s i h on = omega (arith, on.iface, is_open-iface c past h.legal s on.there, h.proper.few_ifaces)

abbrev send_as : BusConfig → List Entry → ℕ → Reply
send_as c past i =
    if is_off (state_at c past i) then reply.Refused refusal.BusOff else if is_down (state_at c past i) then reply.Refused refusal.Down
    else if length (sent_by past i) - gone_count past i == c.tx_capacity then reply.Refused refusal.NoBuffers else reply.Sent (length (sent_by past i))

on-open : (c : BusConfig) (past : List Entry) (s : SocketId) (f : CanFrame) (i : ℕ) → IsOn past s.0 i → lacks_fd f (options_of past s.0) ≡ false → send_as c past i ≡ legal_reply c past (event.Send s f)
on-open c past s f i on may = ap (send_as c past) on.iface ∙ sym (cond-true (is_open past s.0) _ _ on.there ∙ cond-false (lacks_fd f (options_of past s.0)) _ _ may)

pub sent-fd-off : (c : BusConfig) (past : List Entry) (s : SocketId) (f : CanFrame) → is_open past s.0 ≡ true → lacks_fd f (options_of past s.0) ≡ true → reply.Refused refusal.FdOff ≡ legal_reply c past (event.Send s f)
sent-fd-off c past s f there lacks = sym (cond-true (is_open past s.0) _ _ there ∙ cond-true (lacks_fd f (options_of past s.0)) _ _ lacks)

-- the state of the socket's interface
pub state-on : (c : BusConfig) (past : List Entry) (s i : ℕ) (nodes : Nodes) (counts : ErrorCounts) (state : State) → IsHistory c past → IsOn past s i → nodes ≡ kept_nodes c past → counts ≡ counts_at nodes i → state ≡ state_of counts → state ≡ state_at c past i
state-on c past s i nodes counts state h on are counted is = is ∙ ap state_of counted ∙ state-kept c past nodes i (few-on c past s i h on) are

pub sent-off : (c : BusConfig) (past : List Entry) (s : SocketId) (f : CanFrame) (i : ℕ) (state : State) (off : Bool) → IsOn past s.0 i → lacks_fd f (options_of past s.0) ≡ false
    → state ≡ state_at c past i → off ≡ is_off state → off ≡ true → reply.Refused refusal.BusOff ≡ legal_reply c past (event.Send s f)
sent-off c past s f i state off on may at is is_true =
    let here : is_off (state_at c past i) ≡ true = ap is_off (sym at) ∙ sym is ∙ is_true in
    sym (cond-true (is_off (state_at c past i)) _ _ here) ∙ on-open c past s f i on may

pub sent-down : (c : BusConfig) (past : List Entry) (s : SocketId) (f : CanFrame) (i : ℕ) (state : State) (off down : Bool) → IsOn past s.0 i → lacks_fd f (options_of past s.0) ≡ false
    → state ≡ state_at c past i → off ≡ is_off state → off ≡ false → down ≡ is_down state → down ≡ true → reply.Refused refusal.Down ≡ legal_reply c past (event.Send s f)
sent-down c past s f i state off down on may at is not_off is_too is_true =
    let on_bus : is_off (state_at c past i) ≡ false = ap is_off (sym at) ∙ sym is ∙ not_off in
    let here : is_down (state_at c past i) ≡ true = ap is_down (sym at) ∙ sym is_too ∙ is_true in
    sym (cond-false (is_off (state_at c past i)) _ _ on_bus ∙ cond-true (is_down (state_at c past i)) _ _ here) ∙ on-open c past s f i on may

-- the interface is neither bus off nor down
pub record IsUp (c : BusConfig) (past : List Entry) (i : ℕ) : Type 0 where
  pub off : is_off (state_at c past i) ≡ false
  pub down : is_down (state_at c past i) ≡ false

pub is-up : (c : BusConfig) (past : List Entry) (i : ℕ) (state : State) (off down : Bool) → state ≡ state_at c past i → off ≡ is_off state → off ≡ false → down ≡ is_down state → down ≡ false → IsUp c past i
is-up c past i state off down at is not_off is_too not_down = record { off = ap is_off (sym at) ∙ sym is ∙ not_off; down = ap is_down (sym at) ∙ sym is_too ∙ not_down }

-- the frames accepted for sending, and how many of them have left the queue
pub record IsQueue (past : List Entry) (i sent gone : ℕ) : Type 0 where
  pub sent_is : sent ≡ length (sent_by past i)
  pub gone_is : gone ≡ gone_count past i

waiting : (past : List Entry) (i sent gone n : ℕ) → IsQueue past i sent gone → n ≡ sent - gone → n ≡ length (sent_by past i) - gone_count past i
waiting past i sent gone n queue is = is ∙ ap (λ (k : ℕ). k - gone) queue.sent_is ∙ ap (λ (k : ℕ). length (sent_by past i) - k) queue.gone_is

pub sent-full : (c : BusConfig) (past : List Entry) (s : SocketId) (f : CanFrame) (i sent gone n : ℕ) → IsOn past s.0 i → lacks_fd f (options_of past s.0) ≡ false → IsUp c past i → IsQueue past i sent gone → n ≡ sent - gone
    → n ≡ c.tx_capacity → reply.Refused refusal.NoBuffers ≡ legal_reply c past (event.Send s f)
sent-full c past s f i sent gone n on may up queue room full =
    let is_full : (length (sent_by past i) - gone_count past i == c.tx_capacity) ≡ true = eq-eqb _ _ (sym (waiting past i sent gone n queue room) ∙ full) in
    sym (cond-false (is_off (state_at c past i)) _ _ up.off ∙ cond-false (is_down (state_at c past i)) _ _ up.down ∙ cond-true (length (sent_by past i) - gone_count past i == c.tx_capacity) _ _ is_full) ∙ on-open c past s f i on may

pub sent-taken : (c : BusConfig) (past : List Entry) (s : SocketId) (f : CanFrame) (i sent gone n : ℕ) → IsOn past s.0 i → lacks_fd f (options_of past s.0) ≡ false → IsUp c past i → IsQueue past i sent gone → n ≡ sent - gone
    → n ≢ c.tx_capacity → reply.Sent sent ≡ legal_reply c past (event.Send s f)
sent-taken c past s f i sent gone n on may up queue room free =
    let is_free : (length (sent_by past i) - gone_count past i == c.tx_capacity) ≡ false = ne_eqb _ _ (λ e. free (waiting past i sent gone n queue room ∙ e)) in
    ap (λ (k : ℕ). reply.Sent k) queue.sent_is
    ∙ sym (cond-false (is_off (state_at c past i)) _ _ up.off ∙ cond-false (is_down (state_at c past i)) _ _ up.down ∙ cond-false (length (sent_by past i) - gone_count past i == c.tx_capacity) _ _ is_free) ∙ on-open c past s f i on may

-- ---- the reply to each kind of event

pub full-reply : (c : BusConfig) (past : List Entry) (e : Event) → c.limit ≤ length past → reply.Refused refusal.RecordFull ≡ reply_after c past e
full-reply c past e full = sym (cond-true (nat_le c.limit (length past)) _ _ (le-leb c.limit (length past) full))

pub full-entries : (c : BusConfig) (past : List Entry) (e : Event) → c.limit ≤ length past → past ≡ entries_after c past e
full-entries c past e full = sym (cond-true (nat_le c.limit (length past)) _ _ (le-leb c.limit (length past) full))

pub room-reply : (c : BusConfig) (past : List Entry) (e : Event) (r : Reply) → length past < c.limit → r ≡ legal_reply c past e → r ≡ reply_after c past e
room-reply c past e r room is = is ∙ sym (cond-false (nat_le c.limit (length past)) _ _ (lt-leb c.limit (length past) room))

pub room-entries : (c : BusConfig) (es new : List Entry) (e f : Event) (r : Reply) → length es < c.limit → r ≡ legal_reply c (reverse es) e → f ≡ e → new ≡ es ++ entry_of f r ∷ [] → reverse new ≡ entries_after c (reverse es) e
room-entries c es new e f r room is same more =
    ap reverse more
    ∙ reverse-append es (entry_of f r ∷ [])
    ∙ ap (λ (k : Event). entry_of k r ∷ reverse es) same
    ∙ ap (λ (k : Reply). record { event = e; reply = k } ∷ reverse es) is
    ∙ sym (cond-false (nat_le c.limit (length (reverse es))) _ _ (lt-leb c.limit (length (reverse es)) (omega (arith, room, length-reverse es))))

pub entries-legal : (c : BusConfig) (past : List Entry) (e : Event) → IsHistory c past → IsHistory c (entries_after c past e)
entries-legal c past e h = when (nat_le c.limit (length past)) refl
  where
    when : (b : Bool) → nat_le c.limit (length past) ≡ b → IsHistory c (if b then past else record { event = e; reply = legal_reply c past e } ∷ past)
    when true full = h
    when false room = record { proper = h.proper; legal = (leb-false c.limit (length past) room, refl, h.legal) }

pub replies_more : (c : BusConfig) (past new : List Entry) (events : List Event) (k : ℕ) (e : Event) (r : Reply) (rs rs' all : List Reply) → k < length events
    → e ≡ get_or events k e → r ≡ reply_after c past e → new ≡ entries_after c past e → rs' ≡ rs ++ r ∷ [] → rs ++ replies_after c past (drop k events) ≡ all
    → rs' ++ replies_after c new (drop (k + 1) events) ≡ all
unfolding replies_after
replies_more c past new events k e r rs rs' all lt read answer after more so_far =
    let rest = replies_after c new (drop (k + 1) events) in
    ap (λ (xs : List Reply). xs ++ rest) more
    ∙ append_assoc rs (r ∷ []) rest
    ∙ ap (λ (x : Reply). rs ++ x ∷ rest) answer
    ∙ ap (λ (h : List Entry). rs ++ reply_after c past e ∷ replies_after c h (drop (k + 1) events)) after
    ∙ ap (λ (es : List Event). rs ++ replies_after c past es) (ap (λ (x : Event). x ∷ drop (k + 1) events) read ∙ sym (drop_more events k e lt))
    ∙ so_far

pub replies_all : (c : BusConfig) (past : List Entry) (events : List Event) (k : ℕ) (rs all : List Reply) → length events ≤ k → rs ++ replies_after c past (drop k events) ≡ all → rs ≡ all
unfolding replies_after
replies_all c past events k rs all ended so_far =
    sym (ap (λ (es : List Event). rs ++ replies_after c past es) (drop_all k events ended) ∙ append-nil rs) ∙ so_far
