use Rattle.std.proofs.Common.{◌≡◌, ℕ, zero, suc, ◌+◌, ◌-◌, ◌<◌, ◌≤◌, ◌==◌, nat_le, Bool, true, false, not, ◌||◌, ◌&&◌, List, [], ◌∷◌, ◌++◌, length, slice_get, Option, Some, None, if◌then◌else◌, refl, sym, ap, ◌∙◌, ◌*◌, subst, arith}
use Rattle.std.proofs.lemmas.Bool.{eqb-true, leb-false, and_parts}
use Rattle.std.proofs.lemmas.List.{length_push, length-append, length-take, length-drop}
use Rattle.std.proofs.lemmas.Option.{slice_get_within, slice_get-get_or}
use Rattle.can_frame.specs.Frames.{ErrorMessage}
use Rattle.can_frame.specs.Sets.{is_in}
use Rattle.can_frame.specs.declared.iface.IfaceSet.{IfaceSet}
use Rattle.can_filter.specs.Filters.{CanFilter}
use Rattle.can_filter.specs.declared.options.Options.{Options}
use Rattle.can_filter.specs.Passing.{wants}
use Rattle.can_confine.specs.Confinement.{is_down, is_off, is_silent}
use Rattle.can_fault.specs.declared.verdict.Verdict.{Verdict}
use Rattle.can_attempt.specs.Attempts.{Transmission, counts_after, is_done}
use Rattle.can_errframe.specs.ErrorMessages.{state_message, restart_message}
use Rattle.can_event.specs.declared.entry.Entry.{Entry}
use Rattle.can_event.specs.declared.event.Event.{Event}
use Rattle.can_event.specs.declared.event.Event.TheVariants.{Open, Close, SetFilters, SetOption, Send, Receive, Attempt, Restart, Down}
use Rattle.can_event.specs.declared.reply.Reply.{Reply}
use Rattle.can_event.specs.declared.reply.Reply.TheVariants as reply
use Rattle.can_event.specs.declared.refusal.Refusal.TheVariants as refusal
use Rattle.can_event.specs.declared.bus_config.BusConfig.{BusConfig}
use Rattle.can_event.specs.declared.received.Received.{Received}
use Rattle.can_event.specs.declared.attempt.Tried.{Tried}
use Rattle.can_event.specs.declared.attempt.Attempt.TheVariants as attempt
use Rattle.can_event.specs.declared.pending.Pending.{Pending}
use Rattle.can_bus.specs.Sockets.{Place, places, places_after, open_sockets, is_open, iface_of, iface_in, filters_of, options_of}
use Rattle.can_bus.specs.Transmit.{sent_by, sent_after, gone_count, gone_after, done_count, done_after, refused_count, refused_after, head_of}
use Rattle.can_bus.specs.Counters.{state_at, transmission}
use Rattle.can_bus.specs.Attempts.{winner, attempt_reply, tried_head, tried_with}
use Rattle.can_bus.specs.Posts.{Post, is_looped_back, is_own, posts_of, data_posts, error_posts, attempt_posts, restart_posts, auto_restart_posts, fault_message_for, role_at}
use Rattle.can_bus.specs.Queues.{taken_from, taken_after, queued_to, dropped_at, candidates_of, passing}
use Rattle.can_bus.specs.Legal.{lacks_fd, legal_reply, IsLegal}
use Rattle.can_bus.proofs.Lists.{Rises}
use Rattle.can_bus.proofs.Rising.{open_sockets-rise}

-- ---- a list only grows

grown : {X : Type 0} (b : Bool) (xs : List X) (x : X) → length xs ≤ length (if b then xs ++ x ∷ [] else xs)
grown true xs x = omega (arith, length_push xs x)
grown false xs x = omega arith

by_one : {X : Type 0} (b : Bool) (xs : List X) (x : X) → length (if b then xs ++ x ∷ [] else xs) ≤ length xs + 1
by_one true xs x = omega (arith, length_push xs x)
by_one false xs x = omega arith

pub sent_by-step : (past : List Entry) (i : ℕ) (e : Event) (r : Reply) (before : List Pending) → length before ≤ length (sent_after past i e r before)
sent_by-step past i (Send s f) (reply.Sent n) before = grown (iface_of past s.0 == i) before _
sent_by-step past i _ _ before = omega arith

sent_by-by_one : (past : List Entry) (i : ℕ) (e : Event) (r : Reply) (before : List Pending) → length (sent_after past i e r before) ≤ length before + 1
sent_by-by_one past i (Send s f) (reply.Sent n) before = by_one (iface_of past s.0 == i) before _
sent_by-by_one past i _ _ before = omega arith

-- the number of frames that an interface sent is at most the number of entries
pub sent_by-le : (past : List Entry) (i : ℕ) → length (sent_by past i) ≤ length past
sent_by-le [] i = omega arith
sent_by-le (e ∷ past) i = omega (arith, sent_by-by_one past i e.event e.reply (sent_by past i), sent_by-le past i)

-- ---- facts about the history from a tried frame

-- if a frame was tried, it was first in the queue of interface w
pub record WasTried (c : BusConfig) (past : List Entry) (m : ℕ) (v : Verdict) (t : Tried) : Type 0 where
  pub place : ℕ
  pub pending : Pending
  pub won : winner c past ≡ Some place
  pub head : head_of past place ≡ Some pending
  pub is : t ≡ tried_with c past m v place pending.frame

was_tried-at : (c : BusConfig) (past : List Entry) (m : ℕ) (v : Verdict) (t : Tried) (w : Option ℕ) → winner c past ≡ w → reply.Attempted (attempt.Tried t) ≡ attempt_reply c past m v w → WasTried c past m v t
was_tried-at c past m v t None who law = cc
was_tried-at c past m v t (Some w) who law = at_head (head_of past w) refl law
  where
    at_head : (p : Option Pending) → head_of past w ≡ p → reply.Attempted (attempt.Tried t) ≡ tried_head c past m v w p → WasTried c past m v t
    at_head None is l = cc
    at_head (Some p) is l = record { place = w; pending = p; won = who; head = is; is = (cc) }

pub was_tried : (c : BusConfig) (past : List Entry) (m : ℕ) (v : Verdict) (t : Tried) → reply.Attempted (attempt.Tried t) ≡ legal_reply c past (Attempt m v) → WasTried c past m v t
was_tried c past m v t law = was_tried-at c past m v t (winner c past) refl law

pub tried_had_head : (c : BusConfig) (past : List Entry) (m : ℕ) (v : Verdict) (t : Tried) → WasTried c past m v t → gone_count past t.winner < length (sent_by past t.winner)
tried_had_head c past m v t w =
    let who : t.winner ≡ w.place = ap (λ (u : Tried). u.winner) w.is in
    subst (λ i. gone_count past i < length (sent_by past i)) (sym who) (slice_get_within (sent_by past w.place) (gone_count past w.place) w.pending w.head)

abbrev is_tried : Reply → Bool
is_tried (reply.Attempted (attempt.Tried t)) = true
is_tried _ = false

untried-if : (b : Bool) (x y : Reply) → is_tried x ≡ false → is_tried y ≡ false → is_tried (if b then x else y) ≡ false
untried-if true x y hx hy = hx
untried-if false x y hx hy = hy

never : {P : Type 0} (t : Tried) (r : Reply) → reply.Attempted (attempt.Tried t) ≡ r → is_tried r ≡ false → P
never t r law untried = let e : true ≡ false = ap is_tried law ∙ untried in cc

-- only an attempt has a tried frame as its reply
pub by_attempt : (P : Event → Type 0) (c : BusConfig) (past : List Entry) (e : Event) (t : Tried) → reply.Attempted (attempt.Tried t) ≡ legal_reply c past e → ((m : ℕ) (v : Verdict) → WasTried c past m v t → P (Attempt m v)) → P e
by_attempt P c past (Attempt m v) t law k = k m v (was_tried c past m v t law)
by_attempt P c past (Open i n) t law k = never t _ law (untried-if (nat_le c.ifaces i) _ _ refl (untried-if (not (nat_le 1 n && nat_le n 65536)) _ _ refl (untried-if (nat_le 64 (length (open_sockets past))) _ _ refl refl)))
by_attempt P c past (Close s) t law k = never t _ law (untried-if (is_open past s.0) _ _ refl refl)
by_attempt P c past (SetFilters s f) t law k = never t _ law (untried-if (is_open past s.0) _ _ refl refl)
by_attempt P c past (SetOption s o) t law k = never t _ law (untried-if (is_open past s.0) _ _ refl refl)
by_attempt P c past (Send s f) t law k =
    let i = iface_of past s.0 in
    let full : Bool = length (sent_by past i) - gone_count past i == c.tx_capacity in
    never t _ law (untried-if (is_open past s.0) _ _ (untried-if (lacks_fd f (options_of past s.0)) _ _ refl (untried-if (is_off (state_at c past i)) _ _ refl (untried-if (is_down (state_at c past i)) _ _ refl (untried-if full _ _ refl refl)))) refl)
by_attempt P c past (Receive s) t law k = never t _ law (untried-if (is_open past s.0) _ _ refl refl)
by_attempt P c past (Restart i m) t law k = never t _ law (untried-if (nat_le c.ifaces i) _ _ refl (untried-if (is_silent (state_at c past i)) _ _ refl refl))
by_attempt P c past (Down i m) t law k = never t _ law (untried-if (nat_le c.ifaces i) _ _ refl refl)

pub tried_by : {P : Type 0} (c : BusConfig) (past : List Entry) (e : Event) (t : Tried) → reply.Attempted (attempt.Tried t) ≡ legal_reply c past e → ((m : ℕ) (v : Verdict) → WasTried c past m v t → P) → P
tried_by {P = P} c past e t law k = by_attempt (λ f. P) c past e t law k

-- ---- at most as many frames have left the queue as were sent, and at most as many are done as have left it

gone-step : (sent before : ℕ) (off here : Bool) → before ≤ sent → (here ≡ true → before < sent) → (if off then sent else if here then before + 1 else before) ≤ sent
gone-step sent before true here le lt = omega arith
gone-step sent before false true le lt = omega (arith, lt refl)
gone-step sent before false false le lt = le

done-step : (sent gone done : ℕ) (off here : Bool) → gone ≤ sent → done ≤ gone → (here ≡ true → gone < sent) → (if here then done + 1 else done) ≤ (if off then sent else if here then gone + 1 else gone)
done-step sent gone done true true le le' lt = omega (arith, lt refl)
done-step sent gone done true false le le' lt = omega arith
done-step sent gone done false true le le' lt = omega arith
done-step sent gone done false false le le' lt = le'

had-head : (c : BusConfig) (past : List Entry) (m : ℕ) (v : Verdict) (t : Tried) (i : ℕ) → WasTried c past m v t → ((t.winner == i) && is_done t.class) ≡ true → gone_count past i < length (sent_by past i)
had-head c past m v t i w here = subst (λ k. gone_count past k < length (sent_by past k)) (eqb-true t.winner i (and_parts (t.winner == i) (is_done t.class) here).0) (tried_had_head c past m v t w)

gone-more : (c : BusConfig) (past : List Entry) (i : ℕ) (e : Event) (r : Reply) → r ≡ legal_reply c past e → gone_count past i ≤ length (sent_by past i) → gone_after e r i (length (sent_by past i)) (gone_count past i) ≤ length (sent_by past i)
gone-more c past i e (reply.Attempted (attempt.Tried t)) law le = tried_by c past e t law (λ m v w. gone-step (length (sent_by past i)) (gone_count past i) (is_in i t.off) ((t.winner == i) && is_done t.class) le (had-head c past m v t i w))
gone-more c past i (Down k m) reply.Done law le = when (k == i)
  where
    when : (b : Bool) → (if b then length (sent_by past i) else gone_count past i) ≤ length (sent_by past i)
    when true = omega arith
    when false = le
gone-more c past i _ _ law le = le

done-more : (c : BusConfig) (past : List Entry) (i : ℕ) (e : Event) (r : Reply) → r ≡ legal_reply c past e → gone_count past i ≤ length (sent_by past i) → done_count past i ≤ gone_count past i → done_after r i (done_count past i) ≤ gone_after e r i (length (sent_by past i)) (gone_count past i)
done-more c past i e (reply.Attempted (attempt.Tried t)) law le le' = tried_by c past e t law (λ m v w. done-step (length (sent_by past i)) (gone_count past i) (done_count past i) (is_in i t.off) ((t.winner == i) && is_done t.class) le le' (had-head c past m v t i w))
done-more c past i (Down k m) reply.Done law le le' = when (k == i)
  where
    when : (b : Bool) → done_count past i ≤ (if b then length (sent_by past i) else gone_count past i)
    when true = omega (arith, le, le')
    when false = le'
done-more c past i _ _ law le le' = le'

pub gone-le-sent : (c : BusConfig) (past : List Entry) → IsLegal c past → (i : ℕ) → gone_count past i ≤ length (sent_by past i)
gone-le-sent c [] legal i = omega arith
gone-le-sent c (e ∷ past) legal i = omega (arith, gone-more c past i e.event e.reply legal.1 (gone-le-sent c past legal.2 i), sent_by-step past i e.event e.reply (sent_by past i))

pub done-le-gone : (c : BusConfig) (past : List Entry) → IsLegal c past → (i : ℕ) → done_count past i ≤ gone_count past i
done-le-gone c [] legal i = omega arith
done-le-gone c (e ∷ past) legal i = done-more c past i e.event e.reply legal.1 (gone-le-sent c past legal.2 i) (done-le-gone c past legal.2 i)

-- ---- the number of refusals is at most the number of entries

refused-by_one : (past : List Entry) (i : ℕ) (e : Event) (r : Reply) (before : ℕ) → refused_after past i e r before ≤ before + 1
refused-by_one past i (Send s f) (reply.Refused refusal.NoBuffers) before = most (iface_of past s.0 == i)
  where
    most : (b : Bool) → (if b then before + 1 else before) ≤ before + 1
    most true = omega arith
    most false = omega arith
refused-by_one past i _ _ before = omega arith

pub refused-le : (past : List Entry) (i : ℕ) → refused_count past i ≤ length past
refused-le [] i = omega arith
refused-le (e ∷ past) i = omega (arith, refused-by_one past i e.event e.reply (refused_count past i), refused-le past i)

-- ---- the number of items taken from a socket is at most the number of items queued to it

taken_from-step : (c : BusConfig) (past : List Entry) (s : ℕ) (e : Event) (r : Reply) → r ≡ legal_reply c past e → length (taken_from past s) ≤ length (queued_to c past s) → length (taken_after e r s (taken_from past s)) ≤ length (queued_to c past s)
taken_from-step c past s (Receive k) (reply.Received (Some x)) law le = when (is_open past k.0) (s == k.0) refl refl law
  where
    when : (opened here : Bool) → is_open past k.0 ≡ opened → (s == k.0) ≡ here → reply.Received (Some x) ≡ (if opened then reply.Received (slice_get (queued_to c past k.0) (length (taken_from past k.0))) else reply.Refused refusal.NoSocket) → length (if here then taken_from past s ++ x ∷ [] else taken_from past s) ≤ length (queued_to c past s)
    when false here is at l = cc
    when true false is at l = le
    when true true is at l =
        let item : slice_get (queued_to c past k.0) (length (taken_from past k.0)) ≡ Some x = cc in
        let room : length (taken_from past k.0) < length (queued_to c past k.0) = slice_get_within (queued_to c past k.0) (length (taken_from past k.0)) x item in
        let same : s ≡ k.0 = eqb-true s k.0 at in
        omega (arith, length_push (taken_from past s) x, subst (λ n. length (taken_from past n) < length (queued_to c past n)) (sym same) room)
taken_from-step c past s _ _ law le = le

pub taken_from-le-queued : (c : BusConfig) (past : List Entry) → IsLegal c past → (s : ℕ) → length (taken_from past s) ≤ length (queued_to c past s)
taken_from-le-queued c [] legal s = omega arith
taken_from-le-queued c (e ∷ past) legal s = omega (arith, taken_from-step c past s e.event e.reply legal.1 (taken_from-le-queued c past legal.2 s), length-append {A = Received})

-- ---- the interface of each socket exists

abbrev pub AreBelow : ℕ → List Place → Type 0
AreBelow n ps = (k : ℕ) (p : Place) → slice_get ps k ≡ Some p → p.iface < n

push-below : (n : ℕ) (ps : List Place) (q : Place) → AreBelow n ps → q.iface < n → AreBelow n (ps ++ q ∷ [])
push-below n [] q below lt zero p at = let is : q ≡ p = cc in subst (λ (r : Place). r.iface < n) is lt
push-below n [] q below lt (suc k) p at = cc
push-below n (x ∷ ps) q below lt zero p at = below zero p at
push-below n (x ∷ ps) q below lt (suc k) p at = push-below n ps q (λ j r h. below (suc j) r h) lt k p at

places-step : (c : BusConfig) (past : List Entry) (e : Event) (r : Reply) → r ≡ legal_reply c past e → AreBelow c.ifaces (places past) → AreBelow c.ifaces (places_after e r (places past))
places-step c past (Open i n) (reply.Opened s) law below = push-below c.ifaces (places past) _ below (when (nat_le c.ifaces i) refl law)
  where
    when : (b : Bool) → nat_le c.ifaces i ≡ b → reply.Opened s ≡ (if b then reply.Refused refusal.NoInterface else if not (nat_le 1 n && nat_le n 65536) then reply.Refused refusal.BadCapacity else if nat_le 64 (length (open_sockets past)) then reply.Refused refusal.TooManySockets else reply.Opened (record { 0 = length (places past) })) → i < c.ifaces
    when true is l = cc
    when false is l = leb-false c.ifaces i is
places-step c past _ _ law below = below

pub places-below : (c : BusConfig) (past : List Entry) → IsLegal c past → AreBelow c.ifaces (places past)
places-below c [] legal = λ k p at. cc
places-below c (e ∷ past) legal = places-step c past e.event e.reply legal.1 (places-below c past legal.2)

Rises-below : (a b s k : ℕ) (xs : List ℕ) → slice_get xs k ≡ Some s → Rises a b xs → s < b
Rises-below a b s k [] at h = cc
Rises-below a b s zero (x ∷ xs) at h = let is : x ≡ s = cc in omega (arith, Rises-range (x + 1) b xs h.1)
  where
    Rises-range : (a b : ℕ) (xs : List ℕ) → Rises a b xs → a ≤ b
    Rises-range a b [] h = h
    Rises-range a b (y ∷ ys) h = omega (arith, h.0, Rises-range (y + 1) b ys h.1)
Rises-below a b s (suc k) (x ∷ xs) at h = Rises-below (x + 1) b s k xs at h.1

-- the interface of an open socket exists
pub open-iface : (c : BusConfig) (past : List Entry) → IsLegal c past → (k o : ℕ) → slice_get (open_sockets past) k ≡ Some o → iface_of past o < c.ifaces
open-iface c past legal k o at = look (slice_get (places past) o) refl
  where
    within : o < length (places past)
    within = Rises-below 0 (length (places past)) o k (open_sockets past) at (open_sockets-rise past)

    look : (p : Option Place) → slice_get (places past) o ≡ p → iface_in p < c.ifaces
    look (Some p) is = places-below c past legal o p is
    look None is = let there : slice_get (places past) o ≡ Some _ = slice_get-get_or (places past) o (record { iface = 0; capacity = 0 }) within in cc

-- ---- the number of items dropped at a socket is bounded by the number of entries

pub passing-le : (fs : List CanFilter) (o : Options) (s : ℕ) (ps : List Post) → length (passing fs o s ps) ≤ length ps
passing-le fs o s [] = omega arith
passing-le fs o s (p ∷ ps) =
    elim (wants fs o p.received.item (is_own p.sender s)) as (λ b. length (if b then p.received ∷ passing fs o s ps else passing fs o s ps) ≤ suc (length ps))
    [ true ↦ omega (arith, passing-le fs o s ps) | false ↦ omega (arith, passing-le fs o s ps) ]

pub data_posts-le : (i : ℕ) (t : Tried) (p : Option Pending) → length (data_posts i t p) ≤ 1
data_posts-le i t p = one (is_in i t.accepted || ((i == t.winner) && is_looped_back t.class p)) _
  where
    one : (b : Bool) (x : Post) → length (if b then x ∷ [] else []) ≤ 1
    one true x = omega arith
    one false x = omega arith

pub error_posts-le : (i m : ℕ) (e : Option ErrorMessage) → length (error_posts i m e) ≤ 1
error_posts-le i m None = omega arith
error_posts-le i m (Some e) = omega arith

either-le : (b : Bool) (xs : List Post) → length xs ≤ 1 → length (if b then xs else []) ≤ 1
either-le true xs le = le
either-le false xs le = omega arith

pub attempt_posts-le : (reporting : IfaceSet) (tr : Transmission) (t : Tried) (p : Option Pending) (i : ℕ) → length (attempt_posts reporting tr t p i) ≤ 3
attempt_posts-le reporting tr t p i =
    let fault = if is_in i reporting then error_posts i t.moment (fault_message_for t.class tr.verdict (role_at tr i)) else [] in
    let state = error_posts i t.moment (state_message (tr.counts i) (counts_after tr i)) in
    omega (arith, length-append (data_posts i t p ++ fault) state, length-append (data_posts i t p) fault, data_posts-le i t p, either-le (is_in i reporting) (error_posts i t.moment (fault_message_for t.class tr.verdict (role_at tr i))) (error_posts-le i t.moment (fault_message_for t.class tr.verdict (role_at tr i))), error_posts-le i t.moment (state_message (tr.counts i) (counts_after tr i)))

restart_posts-le : (k m i : ℕ) → length (restart_posts k m i) ≤ 3
restart_posts-le k m i = either (i == k) (error_posts i m (Some restart_message)) (error_posts-le i m (Some restart_message))
  where
    either : (b : Bool) (xs : List Post) → length xs ≤ 1 → length (if b then xs else []) ≤ 3
    either true xs le = omega arith
    either false xs le = omega arith

auto_restart_posts-le : (restarted : IfaceSet) (m i : ℕ) → length (auto_restart_posts restarted m i) ≤ 1
auto_restart_posts-le restarted m i = either-le (is_in i restarted) (error_posts i m (Some restart_message)) (error_posts-le i m (Some restart_message))

posts_of-le : (c : BusConfig) (past : List Entry) (i : ℕ) (e : Event) (r : Reply) → length (posts_of c past i e r) ≤ 4
posts_of-le c past i (Attempt m v) (reply.Attempted (attempt.Tried t)) =
    let p = slice_get (sent_by past t.winner) t.number in
    let tr = transmission c past t.winner v in
    omega (arith, length-append (attempt_posts c.reporting tr t p i) (auto_restart_posts t.restarted m i), attempt_posts-le c.reporting tr t p i, auto_restart_posts-le t.restarted m i)
posts_of-le c past i (Attempt m v) (reply.Attempted (attempt.Idle restarted)) = omega (arith, auto_restart_posts-le restarted m i)
posts_of-le c past i (Restart k m) reply.Done = omega (arith, restart_posts-le k m i)
posts_of-le c past i _ _ = omega arith

candidates_of-le : (c : BusConfig) (past : List Entry) (s : ℕ) (e : Event) (r : Reply) → length (candidates_of c past s e r) ≤ 4
candidates_of-le c past s e r =
    elim (is_open past s) as (λ b. length (if b then passing (filters_of past s) (options_of past s) s (posts_of c past (iface_of past s) e r) else []) ≤ 4)
    [ true ↦ omega (arith, passing-le (filters_of past s) (options_of past s) s (posts_of c past (iface_of past s) e r), posts_of-le c past (iface_of past s) e r) | false ↦ omega arith ]

-- no entry drops more than four items at a socket
pub dropped-le : (c : BusConfig) (past : List Entry) (s : ℕ) → length (dropped_at c past s) ≤ 4 * length past
dropped-le c [] s = omega arith
dropped-le c (e ∷ past) s = omega (arith, candidates_of-le c past s e.event e.reply, dropped-le c past s, length-append {A = Received}, length-drop {A = Received})

-- no entry queues more than four items to a socket
pub queued-le : (c : BusConfig) (past : List Entry) (s : ℕ) → length (queued_to c past s) ≤ 4 * length past
queued-le c [] s = omega arith
queued-le c (e ∷ past) s = omega (arith, candidates_of-le c past s e.event e.reply, queued-le c past s, length-append {A = Received}, length-take {A = Received})
