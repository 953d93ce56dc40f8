use Rattle.std.proofs.Common.{◌≡◌, ℕ, zero, suc, ◌+◌, ◌<◌, ◌≤◌, ◌==◌, nat_le, Bool, true, false, not, ◌&&◌, List, [], ◌∷◌, ◌++◌, length, map, slice_get, Some, if◌then◌else◌, refl, sym, ap, ◌∙◌, arith, subst}
use Rattle.std.specs.List.{list_any}
use Rattle.std.proofs.lemmas.Bool.{ne_eqb, cond-true, cond-false, le-leb, lt-leb, and_from, leb-true, eqb-true, or_from, false_from_ne_true}
use Rattle.std.proofs.lemmas.List.{length_push, map_push}
use Rattle.can_filter.specs.Passing.{receives_all, default_options}
use Rattle.can_event.specs.declared.entry.Entry.{Entry}
use Rattle.can_event.specs.declared.socket_id.SocketId.{SocketId}
use Rattle.can_event.specs.declared.refusal.Refusal.{Refusal}
use Rattle.can_event.specs.declared.refusal.Refusal.TheVariants as refusal
use Rattle.can_event.specs.declared.bus_config.BusConfig.{BusConfig}
use Rattle.can_event.specs.declared.event.Event.{Event}
use Rattle.can_event.specs.declared.event.Event.TheVariants.{Open, SetFilters, SetOption, Receive}
use Rattle.can_event.specs.declared.reply.Reply.{Reply}
use Rattle.can_event.specs.declared.reply.Reply.TheVariants as reply
use Rattle.can_bus.specs.Answer.{TakesMemory}
use Rattle.can_bus.specs.Sockets.{Place, places, places_after, open_sockets, is_open, filters_of, filters_after, options_of, options_after}
use Rattle.can_bus.specs.Queues.{queued_to, dropped_at, taken_from, taken_after, candidates_of}
use Rattle.can_bus.specs.Legal.{legal_reply, IsLegal}
use Rattle.can_bus.specs.State.{SocketState, Parts, kept_interfaces, kept_keys, kept_nodes, kept_left, kept_socket, kept_sockets, kept_parts}
use Rattle.can_bus.specs.Changes.{Opens, IsCapacity, fresh}
use Rattle.can_bus.proofs.Attempting.{count-kept}
use Rattle.can_bus.proofs.Lists.{Rises}
use Rattle.can_bus.proofs.Rising.{open_sockets-rise}
use Rattle.can_bus.proofs.Quiet.{queued_to-quiet, dropped_at-quiet, queued_to-unoffered, dropped_at-unoffered}
use Rattle.can_bus.proofs.Keeping.{Follows, IsStill, follows_refused}
use Rattle.can_bus.proofs.SocketFacts.{length-kept_sockets, follows_at_sockets}

abbrev pub entry : ℕ → ℕ → Reply → Entry
entry i k r = record { event = Open i k; reply = r }

-- ---- a socket that is not open yet

Rises-range : (a b : ℕ) (xs : List ℕ) → Rises a b xs → a ≤ b
Rises-range a b [] h = h
Rises-range a b (y ∷ ys) h = omega (arith, h.0, Rises-range (y + 1) b ys h.1)

Rises-beyond : (a b s : ℕ) (xs : List ℕ) → Rises a b xs → b ≤ s → list_any (λ k. k == s) xs ≡ false
Rises-beyond a b s [] h le = refl
Rises-beyond a b s (x ∷ xs) h le = or_from (x == s) (list_any (λ k. k == s) xs) (ne_eqb x s (omega (arith, Rises-range (x + 1) b xs h.1))) (Rises-beyond (x + 1) b s xs h.1 le)

not_yet : (past : List Entry) (s : ℕ) → length (places past) ≤ s → is_open past s ≡ false
not_yet past s le = Rises-beyond 0 (length (places past)) s (open_sockets past) (open_sockets-rise past) le

places-grow : (e : Event) (r : Reply) (before : List Place) → length before ≤ length (places_after e r before)
places-grow (Open i k) (reply.Opened s) before = omega (arith, length_push before (record { iface = i; capacity = k }))
places-grow _ _ before = omega arith

before-too : (e : Entry) (past : List Entry) (s : ℕ) → length (places (e ∷ past)) ≤ s → length (places past) ≤ s
before-too e past s le = omega (arith, places-grow e.event e.reply (places past))

none_offered : (c : BusConfig) (past : List Entry) (s : ℕ) (e : Event) (r : Reply) → is_open past s ≡ false → candidates_of c past s e r ≡ []
none_offered c past s e r shut = cond-false (is_open past s) _ _ shut

queued_to-not_yet : (c : BusConfig) (past : List Entry) (s : ℕ) → length (places past) ≤ s → queued_to c past s ≡ []
queued_to-not_yet c [] s le = refl
queued_to-not_yet c (e ∷ past) s le =
    let before = before-too e past s le in
    queued_to-unoffered c past e s (none_offered c past s e.event e.reply (not_yet past s before)) ∙ queued_to-not_yet c past s before

dropped_at-not_yet : (c : BusConfig) (past : List Entry) (s : ℕ) → length (places past) ≤ s → dropped_at c past s ≡ []
dropped_at-not_yet c [] s le = refl
dropped_at-not_yet c (e ∷ past) s le =
    let before = before-too e past s le in
    dropped_at-unoffered c past e s (none_offered c past s e.event e.reply (not_yet past s before)) ∙ dropped_at-not_yet c past s before

-- a call that was not refused as NoSocket was not on a closed socket
answers_elsewhere : (past : List Entry) (s k : ℕ) (r given : Reply) → r ≡ (if is_open past k then given else reply.Refused refusal.NoSocket) → (r ≡ reply.Refused refusal.NoSocket → ⊥) → is_open past s ≡ false → (s == k) ≡ false
answers_elsewhere past s k r given law answered shut =
    false_from_ne_true (s == k) (λ same. answered (law ∙ cond-false (is_open past k) _ _ (subst (λ n. is_open past n ≡ false) (eqb-true s k same) shut)))

taken_from-step : (c : BusConfig) (past : List Entry) (s : ℕ) (e : Event) (r : Reply) → r ≡ legal_reply c past e → is_open past s ≡ false → taken_after e r s (taken_from past s) ≡ taken_from past s
taken_from-step c past s (Receive k) (reply.Received (Some x)) law shut = cond-false (s == k.0) _ _ (answers_elsewhere past s k.0 (reply.Received (Some x)) _ law (λ e. cc) shut)
taken_from-step c past s _ _ law shut = refl

taken_from-not_yet : (c : BusConfig) (past : List Entry) → IsLegal c past → (s : ℕ) → length (places past) ≤ s → taken_from past s ≡ []
taken_from-not_yet c [] legal s le = refl
taken_from-not_yet c (e ∷ past) legal s le =
    let before = before-too e past s le in
    taken_from-step c past s e.event e.reply legal.1 (not_yet past s before) ∙ taken_from-not_yet c past legal.2 s before

filters_of-step : (c : BusConfig) (past : List Entry) (s : ℕ) (e : Event) (r : Reply) → r ≡ legal_reply c past e → is_open past s ≡ false → filters_after e r s (filters_of past s) ≡ filters_of past s
filters_of-step c past s (SetFilters k fs) reply.Done law shut = cond-false (s == k.0) _ _ (answers_elsewhere past s k.0 reply.Done _ law (λ e. cc) shut)
filters_of-step c past s _ _ law shut = refl

filters_of-not_yet : (c : BusConfig) (past : List Entry) → IsLegal c past → (s : ℕ) → length (places past) ≤ s → filters_of past s ≡ receives_all
filters_of-not_yet c [] legal s le = refl
filters_of-not_yet c (e ∷ past) legal s le =
    let before = before-too e past s le in
    filters_of-step c past s e.event e.reply legal.1 (not_yet past s before) ∙ filters_of-not_yet c past legal.2 s before

options_of-step : (c : BusConfig) (past : List Entry) (s : ℕ) (e : Event) (r : Reply) → r ≡ legal_reply c past e → is_open past s ≡ false → options_after e r s (options_of past s) ≡ options_of past s
options_of-step c past s (SetOption k option) reply.Done law shut = cond-false (s == k.0) _ _ (answers_elsewhere past s k.0 reply.Done _ law (λ e. cc) shut)
options_of-step c past s _ _ law shut = refl

options_of-not_yet : (c : BusConfig) (past : List Entry) → IsLegal c past → (s : ℕ) → length (places past) ≤ s → options_of past s ≡ default_options
options_of-not_yet c [] legal s le = refl
options_of-not_yet c (e ∷ past) legal s le =
    let before = before-too e past s le in
    options_of-step c past s e.event e.reply legal.1 (not_yet past s before) ∙ options_of-not_yet c past legal.2 s before

-- ---- the state after the opening of a socket

slice_get-push : {X : Type 0} (xs : List X) (x : X) → slice_get (xs ++ x ∷ []) (length xs) ≡ Some x
slice_get-push [] x = refl
slice_get-push (y ∷ ys) x = slice_get-push ys x

slice_get-before : {X : Type 0} (xs : List X) (x : X) (k : ℕ) → k < length xs → slice_get (xs ++ x ∷ []) k ≡ slice_get xs k
slice_get-before [] x k lt = absurd (omega arith)
slice_get-before (y ∷ ys) x zero lt = refl
slice_get-before (y ∷ ys) x (suc k) lt = slice_get-before ys x k (omega arith)

old_same : (c : BusConfig) (past : List Entry) (i k : ℕ) (s : SocketId) (o : ℕ) → o < length (places past) → kept_socket c (entry i k (reply.Opened s) ∷ past) o ≡ kept_socket c past o
old_same c past i k s o lt =
    let p : slice_get (places past ++ record { iface = i; capacity = k } ∷ []) o ≡ slice_get (places past) o = slice_get-before (places past) _ o lt in
    let q : queued_to c (entry i k (reply.Opened s) ∷ past) o ≡ queued_to c past o = queued_to-quiet c past (entry i k (reply.Opened s)) o refl in
    let d : dropped_at c (entry i k (reply.Opened s) ∷ past) o ≡ dropped_at c past o = dropped_at-quiet c past (entry i k (reply.Opened s)) o refl in
    cc

new_fresh : (c : BusConfig) (past : List Entry) (i k : ℕ) (s : SocketId) → IsLegal c past → fresh (length (places past)) i k ≡ kept_socket c (entry i k (reply.Opened s) ∷ past) (length (places past))
new_fresh c past i k s legal =
    let n = length (places past) in
    let p : slice_get (places past ++ record { iface = i; capacity = k } ∷ []) (length (places past)) ≡ Some (record { iface = i; capacity = k }) = slice_get-push (places past) _ in
    let q : queued_to c (entry i k (reply.Opened s) ∷ past) (length (places past)) ≡ [] = queued_to-quiet c past (entry i k (reply.Opened s)) n refl ∙ queued_to-not_yet c past n (omega arith) in
    let d : dropped_at c (entry i k (reply.Opened s) ∷ past) (length (places past)) ≡ [] = dropped_at-quiet c past (entry i k (reply.Opened s)) n refl ∙ dropped_at-not_yet c past n (omega arith) in
    let t : taken_from past (length (places past)) ≡ [] = taken_from-not_yet c past legal n (omega arith) in
    let f : filters_of past (length (places past)) ≡ receives_all = filters_of-not_yet c past legal n (omega arith) in
    let m : options_of past (length (places past)) ≡ default_options = options_of-not_yet c past legal n (omega arith) in
    rw (p, q, d, t, f, m) refl

map_below : (c : BusConfig) (past : List Entry) (g : ℕ → SocketState) (a b : ℕ) (xs : List ℕ) → Rises a b xs → ((o : ℕ) → o < b → g o ≡ kept_socket c past o) → map g xs ≡ map (kept_socket c past) xs
map_below c past g a b [] h same = refl
map_below c past g a b (x ∷ xs) h same =
    let here : g x ≡ kept_socket c past x = same x (omega (arith, Rises-range (x + 1) b xs h.1)) in
    let rest : map g xs ≡ map (kept_socket c past) xs = map_below c past g (x + 1) b xs h.1 same in
    cc

sockets-opened : (c : BusConfig) (past : List Entry) (i k : ℕ) (s : SocketId) → IsLegal c past → kept_sockets c past ++ fresh (length (places past)) i k ∷ [] ≡ kept_sockets c (entry i k (reply.Opened s) ∷ past)
unfolding kept_sockets
sockets-opened c past i k s legal =
    ap (λ (v : SocketState). map (kept_socket c past) (open_sockets past) ++ v ∷ []) (new_fresh c past i k s legal)
    ∙ ap (λ (vs : List SocketState). vs ++ kept_socket c (entry i k (reply.Opened s) ∷ past) (length (places past)) ∷ []) (sym (map_below c past (kept_socket c (entry i k (reply.Opened s) ∷ past)) 0 (length (places past)) (open_sockets past) (open_sockets-rise past) (old_same c past i k s)))
    ∙ sym (map_push (kept_socket c (entry i k (reply.Opened s) ∷ past)) (open_sockets past) (length (places past)))

still : (c : BusConfig) (past : List Entry) (i k : ℕ) (s : SocketId) → IsStill c past (entry i k (reply.Opened s))
unfolding kept_interfaces kept_keys kept_nodes kept_left
still c past i k s = record { of_interfaces = refl; of_keys = refl; of_nodes = refl; of_left = refl }

capacity_test : (k : ℕ) → IsCapacity k → not (nat_le 1 k && nat_le k 65536) ≡ false
capacity_test k is = ap not (and_from (nat_le 1 k) (nat_le k 65536) (le-leb 1 k is.0) (le-leb k 65536 is.1))

no_capacity : (k : ℕ) → ¬ IsCapacity k → not (nat_le 1 k && nat_le k 65536) ≡ true
no_capacity k isnt = by (nat_le 1 k) (nat_le k 65536) refl refl
  where
    by : (a b : Bool) → nat_le 1 k ≡ a → nat_le k 65536 ≡ b → not (a && b) ≡ true
    by false b low high = refl
    by true false low high = refl
    by true true low high = absurd (isnt (leb-true 1 k low, leb-true k 65536 high))

-- the checks of an open call, one after another
opening : (c : BusConfig) (past : List Entry) (i k : ℕ) → i < c.ifaces → IsCapacity k → legal_reply c past (Open i k) ≡ (if nat_le 64 (length (open_sockets past)) then reply.Refused refusal.TooManySockets else reply.Opened (record { 0 = length (places past) }))
opening c past i k lt is = cond-false (nat_le c.ifaces i) _ _ (lt-leb c.ifaces i lt) ∙ cond-false (not (nat_le 1 k && nat_le k 65536)) _ _ (capacity_test k is)

lawful : (c : BusConfig) (past : List Entry) (i k : ℕ) (r : Reply) (new : Parts) → (r ≡ reply.Refused refusal.NoMemory → ⊥) → Opens (kept_parts c past) i k r new → r ≡ legal_reply c past (Open i k)
lawful c past i k (reply.Opened s) new remembers opens =
    let below : i < c.ifaces = omega (arith, opens.0, count-kept c past) in
    let few : length (open_sockets past) < 64 = omega (arith, length-kept_sockets c past, opens.2) in
    ap (λ (w : SocketId). reply.Opened w) opens.3
    ∙ sym (opening c past i k below opens.1 ∙ cond-false (nat_le 64 (length (open_sockets past))) _ _ (lt-leb 64 (length (open_sockets past)) few))
lawful c past i k (reply.Refused refusal.NoInterface) new remembers opens =
    let beyond : c.ifaces ≤ i = omega (arith, opens.0, count-kept c past) in
    sym (cond-true (nat_le c.ifaces i) _ _ (le-leb c.ifaces i beyond))
lawful c past i k (reply.Refused refusal.BadCapacity) new remembers opens =
    let below : i < c.ifaces = omega (arith, opens.0, count-kept c past) in
    sym (cond-false (nat_le c.ifaces i) _ _ (lt-leb c.ifaces i below) ∙ cond-true (not (nat_le 1 k && nat_le k 65536)) _ _ (no_capacity k opens.1))
lawful c past i k (reply.Refused refusal.TooManySockets) new remembers opens =
    let below : i < c.ifaces = omega (arith, opens.0, count-kept c past) in
    let many : 64 ≤ length (open_sockets past) = omega (arith, length-kept_sockets c past, opens.2) in
    sym (opening c past i k below opens.1 ∙ cond-true (nat_le 64 (length (open_sockets past))) _ _ (le-leb 64 (length (open_sockets past)) many))
lawful c past i k (reply.Refused refusal.NoMemory) new remembers opens = absurd (remembers refl)
lawful c past i k _ new remembers opens = absurd opens

pub unopened : (old : Parts) (i k : ℕ) (why : Refusal) (new : Parts) → Opens old i k (reply.Refused why) new → new ≡ old
unopened old i k refusal.NoInterface new opens = opens.1
unopened old i k refusal.BadCapacity new opens = opens.2
unopened old i k refusal.TooManySockets new opens = opens.3
unopened old i k refusal.NoMemory new opens = opens.3
unopened old i k _ new opens = absurd opens

-- after a socket is opened, or that is refused for any reason except a lack of memory, the state is the one that the
-- longer history gives
pub opened_follows : (c : BusConfig) (past : List Entry) (i k : ℕ) (r : Reply) (new : Parts) → (r ≡ reply.Refused refusal.NoMemory → ⊥) → IsLegal c past → Opens (kept_parts c past) i k r new → Follows c past (entry i k r) new
opened_follows c past i k (reply.Opened s) new remembers legal opens =
    follows_at_sockets c past (entry i k (reply.Opened s)) new _ _ (lawful c past i k (reply.Opened s) new remembers opens) (still c past i k s) refl (sym (length_push (places past) (record { iface = i; capacity = k }))) (sockets-opened c past i k s legal) opens.4
opened_follows c past i k (reply.Refused why) new remembers legal opens = follows_refused c past (Open i k) why new tt (unopened (kept_parts c past) i k why new opens) (lawful c past i k (reply.Refused why) new remembers opens)
opened_follows c past i k _ new remembers legal opens = absurd opens

-- memory was refused, and nothing else refuses the call
pub no_memory : (c : BusConfig) (past : List Entry) (i k : ℕ) (new : Parts) → Opens (kept_parts c past) i k (reply.Refused refusal.NoMemory) new → TakesMemory (Open i k) (legal_reply c past (Open i k))
no_memory c past i k new opens =
    let below : i < c.ifaces = omega (arith, opens.0, count-kept c past) in
    let few : length (open_sockets past) < 64 = omega (arith, length-kept_sockets c past, opens.2) in
    let granted : legal_reply c past (Open i k) ≡ reply.Opened (record { 0 = length (places past) }) = opening c past i k below opens.1 ∙ cond-false (nat_le 64 (length (open_sockets past))) _ _ (lt-leb 64 (length (open_sockets past)) few) in
    subst (TakesMemory (Open i k)) (sym granted) tt
