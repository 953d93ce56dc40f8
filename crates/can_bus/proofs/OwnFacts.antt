use Rattle.std.proofs.Common.{◌≡◌, ◌⊎◌, ℕ, zero, suc, ◌<◌, ◌≤◌, ◌==◌, nat_lt, Bool, true, false, not, ◌||◌, ◌&&◌, List, [], ◌∷◌, ◌++◌, length, map, filter, slice_get, get_or, Some, All, AllPairs, if◌then◌else◌, refl, sym, ap, ◌∙◌, subst, arith, inl, inr}
use Rattle.std.specs.Option.{option_map}
use Rattle.std.proofs.lemmas.Bool.{eqb-true, eq-eqb, cases_lt, and_parts, and_right}
use Rattle.std.proofs.lemmas.List.Elements.{All-nil, All-push, All-weaker}
use Rattle.can_frame.specs.Frames.{CanFrame}
use Rattle.can_frame.specs.Sets.{is_in}
use Rattle.can_fault.specs.declared.verdict.Verdict.{Verdict}
use Rattle.can_attempt.specs.declared.class.Class.{Class}
use Rattle.can_attempt.specs.declared.class.Class.TheVariants as class
use Rattle.can_attempt.specs.Attempts.{Transmission, is_among, set_of, is_struck, unhurt, accepted_in, class_of}
use Rattle.can_attempt.proofs.Places.{is_among-unhurt}
use Rattle.can_confine.specs.Confinement.{is_silent}
use Rattle.can_attempt.specs.Attempts as attempts
use Rattle.can_event.specs.declared.entry.Entry.{Entry}
use Rattle.can_event.specs.declared.event.Event.{Event}
use Rattle.can_event.specs.declared.event.Event.TheVariants.{Open, Send}
use Rattle.can_event.specs.declared.reply.Reply.{Reply}
use Rattle.can_event.specs.declared.reply.Reply.TheVariants as reply
use Rattle.can_event.specs.declared.bus_config.BusConfig.{BusConfig}
use Rattle.can_event.specs.declared.attempt.Tried.{Tried}
use Rattle.can_event.specs.declared.attempt.Attempt.TheVariants as attempt
use Rattle.can_event.specs.declared.pending.Pending.{Pending}
use Rattle.can_bus.specs.Sockets.{Place, places, places_after, iface_of, iface_in}
use Rattle.can_bus.specs.Transmit.{sent_by, sent_after}
use Rattle.can_bus.specs.Counters.{transmission}
use Rattle.can_bus.specs.Posts.{is_looped_back}
use Rattle.can_bus.specs.Queues.{queued_to}
use Rattle.can_bus.specs.Legal.{legal_reply, IsLegal}
use Rattle.can_bus.specs.Copies.{is_from, is_copied, copying, copying_after, copy_of, InTurn, IsOfSent}
use Rattle.can_bus.proofs.Lawful.{WasTried, tried_by}
use Rattle.can_attempt.proofs.Standing.{is_in-of}
use Rattle.can_bus.proofs.CopyFacts.{received-copies}
use Rattle.can_bus.proofs.TurnFacts.{Facts, facts, looped-done, copied, here, copying-turns}
use Rattle.can_bus.proofs.LifeFacts.{unmade-closed, queued-shut, queued-unmade}

-- ---- the interface of a socket never changes

slice_get-push : {X : Type 0} (xs : List X) (y : X) (k : ℕ) → k < length xs → slice_get (xs ++ y ∷ []) k ≡ slice_get xs k
slice_get-push [] y k lt = absurd (omega (arith, lt))
slice_get-push (x ∷ xs) y zero lt = refl
slice_get-push (x ∷ xs) y (suc k) lt = slice_get-push xs y k (omega (arith, lt))

pub places-kept : (e : Event) (r : Reply) (ps : List Place) (s : ℕ) → s < length ps → slice_get (places_after e r ps) s ≡ slice_get ps s
places-kept (Open i n) (reply.Opened o) ps s made = slice_get-push ps _ s made
places-kept _ _ ps s made = refl

pub iface-kept : (past : List Entry) (e : Entry) (s : ℕ) → s < length (places past) → iface_of (e ∷ past) s ≡ iface_of past s
iface-kept past e s made = ap iface_in (places-kept e.event e.reply (places past) s made)

-- ---- the winner does not accept its own frame

deaf : (a b c d : Bool) → b ≡ true → (a && ((not b && c) && d)) ≡ false
deaf true true c d h = refl
deaf false true c d h = refl
deaf a false c d h = cc

unhurt-not : (tr : Transmission) (j : ℕ) → (j == tr.winner) ≡ true → is_among j (unhurt tr) ≡ false
unhurt-not tr j wins = is_among-unhurt tr j ∙ deaf (not (is_struck tr.verdict j)) (j == tr.winner) (not (is_silent (attempts.state_at tr j))) (nat_lt j tr.count) wins

pub not-accepted : (k : Class) (tr : Transmission) (j : ℕ) → (j == tr.winner) ≡ true → is_in j (set_of (accepted_in k tr)) ≡ false
not-accepted class.Done tr j wins = is_in-of (unhurt tr) j ∙ and_right (nat_lt j 16) (is_among j (unhurt tr)) (unhurt-not tr j wins)
not-accepted class.LastBit tr j wins = is_in-of (unhurt tr) j ∙ and_right (nat_lt j 16) (is_among j (unhurt tr)) (unhurt-not tr j wins)
not-accepted class.Destroyed tr j wins = is_in-of [] j ∙ and_right (nat_lt j 16) false refl
not-accepted class.NoAck tr j wins = is_in-of [] j ∙ and_right (nat_lt j 16) false refl

looped : (x y z : Bool) → x ≡ false → (x || (y && z)) ≡ true → z ≡ true
looped true y z off h = cc
looped false true z off h = h
looped false false z off h = cc

own-done-tried : (c : BusConfig) (past : List Entry) (m : ℕ) (v : Verdict) (t : Tried) (i s : ℕ) → WasTried c past m v t → iface_of past s ≡ i → here c past i s t ≡ true → t.class ≡ class.Done
own-done-tried c past m v t i s w own is =
    let p = slice_get (sent_by past t.winner) t.number in
    let both = and_parts (is_copied c past s t p) (t.winner == i) is in
    let comes = (copied c past s t both.0).comes in
    let tr = transmission c past w.place v in
    let who : t.winner ≡ w.place = ap (λ (u : Tried). u.winner) w.is in
    let mine : t.winner ≡ i = eqb-true t.winner i both.1 in
    let wins : (iface_of past s == w.place) ≡ true = eq-eqb (iface_of past s) w.place (own ∙ sym mine ∙ who) in
    let deafness : is_in (iface_of past s) t.accepted ≡ false = ap (λ (u : Tried). is_in (iface_of past s) u.accepted) w.is ∙ not-accepted (class_of tr) tr (iface_of past s) wins in
    looped-done t.class p (looped (is_in (iface_of past s) t.accepted) (iface_of past s == t.winner) (is_looped_back t.class p) deafness comes)

-- ---- on a socket of the sending interface, each copy comes from an attempt that is done

all-if : (P : Tried → Type 0) (b : Bool) (ts : List Tried) (t : Tried) → All P ts → (b ≡ true → P t) → All P (if b then ts ++ t ∷ [] else ts)
all-if P true ts t h now = All-push P ts t h (now refl)
all-if P false ts t h now = h

map-none : (ts : List Tried) → map copy_of ts ≡ [] → ts ≡ []
map-none [] h = refl
map-none (t ∷ ts) h = cc

copying-none : (c : BusConfig) (past : List Entry) → IsLegal c past → (i s : ℕ) → queued_to c past s ≡ [] → copying c past i s ≡ []
copying-none c past legal i s none = map-none (copying c past i s) (sym (received-copies c past legal i s) ∙ ap (filter (is_from i)) none)

abbrev AreDone : List Tried → Type 0
AreDone ts = All (λ t. t.class ≡ class.Done) ts

own-step : (c : BusConfig) (past : List Entry) (i s : ℕ) (e : Event) (r : Reply) → r ≡ legal_reply c past e → iface_of past s ≡ i → AreDone (copying c past i s) → AreDone (copying_after c past i s r (copying c past i s))
own-step c past i s e (reply.Attempted (attempt.Tried t)) law own before =
    all-if (λ (x : Tried). x.class ≡ class.Done) (here c past i s t) (copying c past i s) t before
    (λ is. tried_by c past e t law (λ m v w. own-done-tried c past m v t i s w own is))
own-step c past i s e _ law own before = before

pub own-done : (c : BusConfig) (past : List Entry) → IsLegal c past → (i s : ℕ) → iface_of past s ≡ i → All (λ t. t.class ≡ class.Done) (copying c past i s)
own-done c [] legal i s own = All-nil (λ (t : Tried). t.class ≡ class.Done)
own-done c (e ∷ past) legal i s own = choose (cases_lt s (length (places past))) (own-done c past legal.2 i s)
  where
    choose : (s < length (places past)) ⊎ (length (places past) ≤ s) → (iface_of past s ≡ i → AreDone (copying c past i s)) → AreDone (copying c (e ∷ past) i s)
    choose (inl made) before =
        let was : iface_of past s ≡ i = sym (iface-kept past e s made) ∙ own in
        own-step c past i s e.event e.reply legal.1 was (before was)
    choose (inr unmade) before =
        let none : queued_to c (e ∷ past) s ≡ [] = queued-shut c past e s (unmade-closed past s unmade) ∙ queued-unmade c past s unmade in
        subst AreDone (sym (copying-none c (e ∷ past) legal i s none)) (All-nil (λ (t : Tried). t.class ≡ class.Done))

strictly : (x y : Tried) → InTurn x y → x.class ≡ class.Done → x.number < y.number
strictly x y turn done = choose (cases_lt x.number y.number)
  where
    clash : class.Done ≡ class.LastBit → x.number < y.number
    clash e = cc

    choose : (x.number < y.number) ⊎ (y.number ≤ x.number) → x.number < y.number
    choose (inl lt) = lt
    choose (inr le) = let up = turn.rising in clash (sym done ∙ turn.again (omega (arith, le, up)))

pub own-single : (c : BusConfig) (past : List Entry) → IsLegal c past → (i s : ℕ) → iface_of past s ≡ i → AllPairs (λ (x y : Tried). x.number < y.number) (copying c past i s)
own-single c past legal i s own = λ j k d lt within. strictly (get_or (copying c past i s) j d) (get_or (copying c past i s) k d) (copying-turns c past legal i s j k d lt within) (own-done c past legal i s own j d (omega (arith, lt, within)))

-- ---- the frame of each copy is the frame that was accepted under its number

got-kept : {X Y : Type 0} (f : X → Y) (xs ys : List X) (n : ℕ) (y : Y) → option_map f (slice_get xs n) ≡ Some y → option_map f (slice_get (xs ++ ys) n) ≡ Some y
got-kept f [] ys n y h = cc
got-kept f (x ∷ xs) ys zero y h = h
got-kept f (x ∷ xs) ys (suc n) y h = got-kept f xs ys n y h

abbrev Accepted : List Pending → ℕ → CanFrame → Type 0
Accepted ps n f = option_map (λ (p : Pending). p.frame) (slice_get ps n) ≡ Some f

sent-kept : (past : List Entry) (i : ℕ) (e : Event) (r : Reply) (before : List Pending) (n : ℕ) (f : CanFrame) → Accepted before n f → Accepted (sent_after past i e r before) n f
sent-kept past i (Send s g) (reply.Sent k) before n f h = when (iface_of past s.0 == i) _
  where
    when : (b : Bool) (p : Pending) → Accepted (if b then before ++ p ∷ [] else before) n f
    when true p = got-kept (λ (q : Pending). q.frame) before (p ∷ []) n f h
    when false p = h
sent-kept past i _ _ before n f h = h

of_sent-kept : (past : List Entry) (e : Entry) (i : ℕ) (t : Tried) → IsOfSent past i t → IsOfSent (e ∷ past) i t
of_sent-kept past e i t h = record { winner = h.winner; frame = sent-kept past i e.event e.reply (sent_by past i) t.number t.frame h.frame }

of_sent-new : (c : BusConfig) (past : List Entry) (i s m : ℕ) (v : Verdict) (t : Tried) → WasTried c past m v t → here c past i s t ≡ true → IsOfSent past i t
of_sent-new c past i s m v t w is =
    let mine : t.winner ≡ i = eqb-true t.winner i (and_parts (is_copied c past s t (slice_get (sent_by past t.winner) t.number)) (t.winner == i) is).1 in
    let f : Facts past i t = facts c past m v t i w mine in
    record { winner = mine; frame = ap (λ n. option_map (λ (p : Pending). p.frame) (slice_get (sent_by past i) n)) f.number ∙ f.frame }

of_sent-step : (c : BusConfig) (past : List Entry) (i s : ℕ) (e : Event) (r : Reply) → r ≡ legal_reply c past e → All (IsOfSent past i) (copying c past i s) → All (IsOfSent past i) (copying_after c past i s r (copying c past i s))
of_sent-step c past i s e (reply.Attempted (attempt.Tried t)) law before =
    all-if (IsOfSent past i) (here c past i s t) (copying c past i s) t before
    (λ is. tried_by c past e t law (λ m v w. of_sent-new c past i s m v t w is))
of_sent-step c past i s e _ law before = before

pub copying-sent : (c : BusConfig) (past : List Entry) → IsLegal c past → (i s : ℕ) → All (IsOfSent past i) (copying c past i s)
copying-sent c [] legal i s = All-nil (IsOfSent [] i)
copying-sent c (e ∷ past) legal i s =
    All-weaker (IsOfSent past i) (IsOfSent (e ∷ past) i) (of_sent-kept past e i) (copying c (e ∷ past) i s)
    (of_sent-step c past i s e.event e.reply legal.1 (copying-sent c past legal.2 i s))
