use Rattle.std.proofs.Common.{◌≡◌, ◌≢◌, ℕ, zero, suc, ◌+◌, ◌-◌, ◌<◌, ◌≤◌, ◌==◌, nat_lt, Bool, true, false, ◌||◌, ◌&&◌, List, [], ◌∷◌, ◌++◌, length, map, replicate, take, drop, slice_get, slice_set, slice_index_or, Option, Some, None, is_some, if◌then◌else◌, inl, inr, refl, sym, ap, ◌∙◌, arith, subst}
use Rattle.std.specs.List.{range_with_len}
use Rattle.std.specs.Option.{option_map}
use mathlib.Core.Path.{fun_ext}
use Rattle.std.proofs.lemmas.Bool.{eq-eqb, ne_eqb, cond-true, cond-false, and_right, cases_lt, cases_eq}
use Rattle.std.proofs.lemmas.List.{length_push, length-append, length-drop, drop-append-le, drop-drop, get_or_past, length-map}
use Rattle.std.proofs.lemmas.List.FromFn.{length-range_with_len}
use Rattle.can_frame.specs.Frames.{CanFrame}
use Rattle.can_frame.specs.Sets.{is_in}
use Rattle.can_frame.specs.declared.iface.IfaceSet.{IfaceSet}
use Rattle.can_confine.specs.Confinement.{ErrorCounts, Step, all_stepped, at_start, state_of, is_off, is_silent}
use Rattle.can_fault.specs.declared.verdict.Verdict.{Verdict}
use Rattle.can_attempt.specs.Attempts.{Transmission, attempt_between, counts_at, judged, set_of, is_among, off_after, counts_after, steps_at, is_done}
use Rattle.can_attempt.proofs.Standing.{is_in-of}
use Rattle.can_event.specs.declared.bus_config.BusConfig.{BusConfig}
use Rattle.can_event.specs.declared.entry.Entry.{Entry}
use Rattle.can_event.specs.declared.attempt.Attempt.{Attempt}
use Rattle.can_event.specs.declared.attempt.Attempt.TheVariants as attempt
use Rattle.can_event.specs.declared.event.Event.TheVariants as event
use Rattle.can_event.specs.declared.pending.Pending.{Pending}
use Rattle.can_event.specs.declared.received.Received.{Received}
use Rattle.can_event.specs.declared.reply.Reply.TheVariants as reply
use Rattle.can_event.specs.declared.attempt.Tried.{Tried}
use Rattle.can_bus.specs.AutoRestart.{attempts_off, restarted_next}
use Rattle.can_record.specs.Journal.{Kept}
use Rattle.can_bus.specs.Sockets.{places, open_sockets, is_open, iface_of, capacity_of, filters_of, options_of}
use Rattle.can_bus.specs.Transmit.{sent_by, gone_count, done_count, head_of}
use Rattle.can_record.specs.Tapes.{tape}
use Rattle.can_bus.specs.Counters.{counts_of, steps_of, state_at, transmission}
use Rattle.can_bus.specs.Attempts.{winner, tried_with, attempt_reply, tried_head}
use Rattle.can_bus.specs.Posts.{Post, attempt_posts, auto_restart_posts, posts_of}
use Rattle.can_bus.specs.Queues.{passing, candidates_of, queued_to, dropped_at, taken_from}
use Rattle.can_bus.specs.Legal.{legal_reply, IsLegal}
use Rattle.can_bus.specs.State.{InterfaceState, SocketState, Parts, filled, reached, key_in, kept_interface, kept_interfaces, kept_socket, kept_sockets, kept_keys, kept_nodes, kept_left, kept_parts, IsKept}
use Rattle.can_bus.specs.Changes.{Carries, Tries, Attempts, came_to, settled, tried_in, after_try, after_auto_restart, begun_anew, counting_down, due_in, ticked, AreReady}
use Rattle.can_bus.proofs.CountingFacts.{live-restarted-not}
use Rattle.can_bus.proofs.Filling.{filled-both}
use Rattle.can_bus.proofs.Keeping.{Follows, parts-are}
use Rattle.can_bus.proofs.KeyFacts.{kept_keys-one}
use Rattle.can_bus.proofs.InterfaceFacts.{IsInterface, IsInterface-at, kept_interfaces-one, length-kept_interfaces}
use Rattle.can_bus.proofs.Lists.{slice_get-drop, list_any_there}
use Rattle.can_bus.proofs.Lawful.{taken_from-le-queued}
use Rattle.can_bus.proofs.LeftFacts.{CountsOn, due-kept, left-counted, left-never, left-off}
use Rattle.can_bus.proofs.NodeFacts.{counts_at-kept, is_silent_at-kept, index-map}
use Rattle.can_bus.proofs.OffFacts.{all_stepped-append, head-below, counts-beyond, off-no-head, winner-contends}
use Rattle.can_bus.proofs.Silence.{live-not-off}
use Rattle.can_bus.proofs.Winning.{winner-is, idle-is, holds_key}

abbrev pub entry : ℕ → Verdict → Attempt → Entry
entry m v r = record { event = event.Attempt m v; reply = reply.Attempted r }

-- ---- the attempt as the state gives it, and as the history gives it

beyond : (xs : List ErrorCounts) (n i : ℕ) → length xs ≡ n → n ≤ i → slice_index_or xs i at_start ≡ at_start
beyond xs n i long le = get_or_past xs i at_start (omega arith)

length-counters : (c : BusConfig) (past : List Entry) → length (kept_nodes c past).counters ≡ 16
unfolding kept_nodes
length-counters c past = long 16
  where
    long : (n : ℕ) → length (map (counts_of c past) (range_with_len 0 n)) ≡ n
    long n = length-map (range_with_len 0 n) (counts_of c past) ∙ length-range_with_len 0 n

pub counts_at-all : (c : BusConfig) (past : List Entry) → IsLegal c past → c.ifaces ≤ 16 → (i : ℕ) → counts_at (kept_nodes c past) i ≡ counts_of c past i
counts_at-all c past legal few i =
    elim (cases_lt i 16) [
      | inl lt ↦ counts_at-kept c past i lt
      | inr le ↦ beyond (kept_nodes c past).counters 16 i (length-counters c past) le ∙ sym (counts-beyond c past legal i (omega arith))
    ]

pub count-kept : (c : BusConfig) (past : List Entry) → (kept_nodes c past).count ≡ c.ifaces
unfolding kept_nodes
count-kept c past = refl

pub between-is : (c : BusConfig) (past : List Entry) (w : ℕ) (v : Verdict) → IsLegal c past → c.ifaces ≤ 16 → attempt_between (kept_nodes c past) w v c.ack ≡ transmission c past w v
between-is c past w v legal few =
    ap (λ (n : ℕ). record { count = n; counts = counts_at (kept_nodes c past); winner = w; verdict = v; ack = c.ack }) (count-kept c past)
    ∙ ap (λ (f : ℕ → ErrorCounts). record { count = c.ifaces; counts = f; winner = w; verdict = v; ack = c.ack }) (fun_ext (counts_at-all c past legal few))

-- ---- the facts about the attempt

-- the state with one attempt fewer until each restart
abbrev counted : BusConfig → List Entry → Parts
counted c past = record (kept_parts c past) { left = ticked (kept_left c past) }

-- the winning interface and its frame, as the history gives them
record IsCarried (c : BusConfig) (past : List Entry) (m : ℕ) (v : Verdict) (t : Tried) (w : ℕ) (l : InterfaceState) (p : Pending) : Type 0 where
  is_interface : IsInterface c past w l
  won : winner c past ≡ Some w
  head_is : head_of past w ≡ Some p
  tried_is : t ≡ tried_with c past m v w p.frame

the_winner : (c : BusConfig) (past : List Entry) (m : ℕ) (v : Verdict) (t : Tried) (new : Parts) → IsLegal c past → c.ifaces ≤ 16 → (k : Carries (counted c past) c m v (due_in (kept_left c past)) t new) → IsCarried c past m v t k.place k.interface k.pending
the_winner c past m v t new legal few k =
    let w = k.place in
    let interface = IsInterface-at c past (kept_interfaces c past) w k.interface refl k.there in
    let number : k.interface.gone ≡ gone_count past w = ap (λ (l : InterfaceState). l.gone) interface.left in
    record {
      is_interface = interface;
      won = winner-is c past legal few w k.wins;
      head_is = sym (slice_get-drop (gone_count past w) (sent_by past w)) ∙ ap (λ (l : InterfaceState). slice_get l.waiting 0) (sym interface.left) ∙ k.oldest;
      tried_is = k.tried
          ∙ ap (λ (n : ℕ). tried_in (attempt_between (kept_nodes c past) w v c.ack) m n (due_in (kept_left c past)) k.pending) number
          ∙ ap (λ (tr : Transmission). tried_in tr m (gone_count past w) (due_in (kept_left c past)) k.pending) (between-is c past w v legal few)
          ∙ ap (λ (rs : IfaceSet). tried_in (transmission c past w v) m (gone_count past w) rs k.pending) (due-kept c past legal);
    }

reply-tried : (c : BusConfig) (past : List Entry) (m : ℕ) (v : Verdict) (t : Tried) (w : ℕ) (l : InterfaceState) (p : Pending) → IsCarried c past m v t w l p → reply.Attempted (attempt.Tried t) ≡ legal_reply c past (event.Attempt m v)
reply-tried c past m v t w l p is =
    ap (λ (u : Tried). reply.Attempted (attempt.Tried u)) is.tried_is
    ∙ ap (tried_head c past m v w) (sym is.head_is)
    ∙ ap (attempt_reply c past m v) (sym is.won)

-- ---- the interfaces

off-alone : (tr : Transmission) (j : ℕ) → j ≢ tr.winner → is_in j (set_of (off_after tr)) ≡ false
off-alone tr j ne = is_in-of (off_after tr) j ∙ and_right (nat_lt j 16) (is_among j (off_after tr)) (alone (is_off (state_of (counts_after tr tr.winner))))
  where
    alone : (b : Bool) → is_among j (if b then tr.winner ∷ [] else []) ≡ false
    alone false = refl
    alone true = ap (λ (b : Bool). b || false) (ne_eqb tr.winner j (λ e. ne (sym e)))

not-off : (c : BusConfig) (past : List Entry) (m : ℕ) (v : Verdict) (t : Tried) (w j : ℕ) (f : CanFrame) → t ≡ tried_with c past m v w f → j ≢ w → is_in j t.off ≡ false
not-off c past m v t w j f is ne = ap (λ (u : Tried). is_in j u.off) is ∙ off-alone (transmission c past w v) j ne

other-winner : (c : BusConfig) (past : List Entry) (m : ℕ) (v : Verdict) (t : Tried) (w j : ℕ) (f : CanFrame) → t ≡ tried_with c past m v w f → j ≢ w → ((t.winner == j) && is_done t.class) ≡ false
other-winner c past m v t w j f is ne = ap (λ (b : Bool). b && is_done t.class) (ap (λ (u : Tried). u.winner == j) is ∙ ne_eqb w j (λ e. ne (sym e)))

gone-other : (c : BusConfig) (past : List Entry) (m : ℕ) (v : Verdict) (t : Tried) (w j : ℕ) (f : CanFrame) → t ≡ tried_with c past m v w f → j ≢ w → gone_count (entry m v (attempt.Tried t) ∷ past) j ≡ gone_count past j
gone-other c past m v t w j f is ne =
    cond-false (is_in j t.off) (length (sent_by past j)) (if (t.winner == j) && is_done t.class then gone_count past j + 1 else gone_count past j) (not-off c past m v t w j f is ne)
    ∙ cond-false ((t.winner == j) && is_done t.class) (gone_count past j + 1) (gone_count past j) (other-winner c past m v t w j f is ne)

done-other : (c : BusConfig) (past : List Entry) (m : ℕ) (v : Verdict) (t : Tried) (w j : ℕ) (f : CanFrame) → t ≡ tried_with c past m v w f → j ≢ w → done_count (entry m v (attempt.Tried t) ∷ past) j ≡ done_count past j
done-other c past m v t w j f is ne = cond-false ((t.winner == j) && is_done t.class) (done_count past j + 1) (done_count past j) (other-winner c past m v t w j f is ne)

interface-other : (c : BusConfig) (past : List Entry) (m : ℕ) (v : Verdict) (t : Tried) (w j : ℕ) (f : CanFrame) → t ≡ tried_with c past m v w f → j ≢ w → kept_interface c (entry m v (attempt.Tried t) ∷ past) j ≡ kept_interface c past j
interface-other c past m v t w j f is ne =
    let g = gone-other c past m v t w j f is ne in
    let d = done-other c past m v t w j f is ne in
    cc

pub drop-all : {X : Type 0} (xs : List X) → drop (length xs) xs ≡ []
drop-all [] = refl
drop-all (x ∷ xs) = drop-all xs

-- the winning interface, depending on whether the attempt is done and whether the interface went bus off
finish_attempt-kept : (room refused gone done : ℕ) (sent : List Pending) (off is_done' : Bool) → ◌≡◌ {A = InterfaceState}
    (record { waiting = if off then [] else if is_done' then drop 1 (drop gone sent) else drop gone sent; room = room; sent = length sent; gone = if off then length sent else if is_done' then gone + 1 else gone; done = if is_done' then done + 1 else done; refused = refused })
    (record { waiting = drop (if off then length sent else if is_done' then gone + 1 else gone) sent; room = room; sent = length sent; gone = if off then length sent else if is_done' then gone + 1 else gone; done = if is_done' then done + 1 else done; refused = refused })
finish_attempt-kept room refused gone done sent true is_done' = ap (λ (ps : List Pending). record { waiting = ps; room = room; sent = length sent; gone = length sent; done = if is_done' then done + 1 else done; refused = refused }) (sym (drop-all sent))
finish_attempt-kept room refused gone done sent false true = ap (λ (ps : List Pending). record { waiting = ps; room = room; sent = length sent; gone = gone + 1; done = done + 1; refused = refused }) (drop-drop 1 gone sent)
finish_attempt-kept room refused gone done sent false false = refl

abbrev interface-by : BusConfig → List Entry → ℕ → Bool → Bool → InterfaceState
interface-by c past w off here = record {
  waiting = drop (if off then length (sent_by past w) else if here then gone_count past w + 1 else gone_count past w) (sent_by past w);
  room = c.tx_capacity;
  sent = length (sent_by past w);
  gone = if off then length (sent_by past w) else if here then gone_count past w + 1 else gone_count past w;
  done = if here then done_count past w + 1 else done_count past w;
  refused = (kept_interface c past w).refused;
}

interface-tried : (c : BusConfig) (past : List Entry) (m : ℕ) (v : Verdict) (t : Tried) (w : ℕ) (l : InterfaceState) (p : Pending) → IsCarried c past m v t w l p → settled t.class (is_in w t.off) l ≡ kept_interface c (entry m v (attempt.Tried t) ∷ past) w
interface-tried c past m v t w l p is =
    let who : (t.winner == w) ≡ true = eq-eqb t.winner w (ap (λ (u : Tried). u.winner) is.tried_is) in
    let won : ((t.winner == w) && is_done t.class) ≡ is_done t.class = ap (λ (b : Bool). b && is_done t.class) who in
    ap (settled t.class (is_in w t.off)) is.is_interface.left
    ∙ finish_attempt-kept c.tx_capacity (kept_interface c past w).refused (gone_count past w) (done_count past w) (sent_by past w) (is_in w t.off) (is_done t.class)
    ∙ ap (interface-by c past w (is_in w t.off)) (sym won)

interfaces-tried : (c : BusConfig) (past : List Entry) (m : ℕ) (v : Verdict) (t : Tried) (w : ℕ) (l : InterfaceState) (p : Pending) → IsCarried c past m v t w l p → slice_set (kept_interfaces c past) w (settled t.class (is_in w t.off) l) ≡ kept_interfaces c (entry m v (attempt.Tried t) ∷ past)
interfaces-tried c past m v t w l p is =
    ap (slice_set (kept_interfaces c past) w) (interface-tried c past m v t w l p is)
    ∙ sym (kept_interfaces-one c past (entry m v (attempt.Tried t)) w is.is_interface.below (λ j ne. interface-other c past m v t w j p.frame is.tried_is ne))

-- ---- the arbitration keys

keys-tried : (c : BusConfig) (past : List Entry) (m : ℕ) (v : Verdict) (t : Tried) (w : ℕ) (l : InterfaceState) (p : Pending) → c.ifaces ≤ 16
    → IsCarried c past m v t w l p
    → slice_set (kept_keys past) w (key_in (slice_get (settled t.class (is_in w t.off) l).waiting 0)) ≡ kept_keys (entry m v (attempt.Tried t) ∷ past)
keys-tried c past m v t w l p few is =
    let e = entry m v (attempt.Tried t) in
    let below : w < 16 = omega (arith, is.is_interface.below) in
    let front : slice_get (settled t.class (is_in w t.off) l).waiting 0 ≡ head_of (e ∷ past) w = ap (λ (k : InterfaceState). slice_get k.waiting 0) (interface-tried c past m v t w l p is) ∙ slice_get-drop (gone_count (e ∷ past) w) (sent_by past w) in
    ap (λ (q : Option Pending). slice_set (kept_keys past) w (key_in q)) front
    ∙ sym (kept_keys-one past e w below (λ j ne. ap (λ (n : ℕ). slice_get (sent_by past j) n) (gone-other c past m v t w j p.frame is.tried_is ne)))

-- ---- the error counts

-- two functions that give the same error counts for each of these places
map_below : (f g : ℕ → ErrorCounts) (a n : ℕ) → ((i : ℕ) → i < a + n → f i ≡ g i) → map f (range_with_len a n) ≡ map g (range_with_len a n)
map_below f g a zero same = refl
map_below f g a (suc n) same =
    let here = same a (omega arith) in
    let rest = map_below f g (a + 1) n (λ i lt. same i (omega (arith, lt))) in
    cc

-- the error counts of an interface that an attempt restarts start from 0
counts-anew : (restarted : Bool) (before more : List Step) → all_stepped at_start (if restarted then [] else before ++ more) ≡ (if restarted then at_start else all_stepped (all_stepped at_start before) more)
counts-anew true before more = refl
counts-anew false before more = all_stepped-append at_start before more

counts-kept : (restarted : Bool) (before : List Step) → all_stepped at_start (if restarted then [] else before) ≡ (if restarted then at_start else all_stepped at_start before)
counts-kept true before = refl
counts-kept false before = refl

nodes-tried : (c : BusConfig) (past : List Entry) (m : ℕ) (v : Verdict) (t : Tried) (w : ℕ) (l : InterfaceState) (p : Pending) → IsLegal c past
    → c.ifaces ≤ 16 → IsCarried c past m v t w l p
    → begun_anew t.restarted (record (kept_nodes c past) { counters = (judged (attempt_between (kept_nodes c past) w v c.ack)).counters }) ≡ kept_nodes c (entry m v (attempt.Tried t) ∷ past)
unfolding kept_nodes
nodes-tried c past m v t w l p legal few is =
    let who : t.winner ≡ w = ap (λ (u : Tried). u.winner) is.tried_is in
    let now : (i : ℕ) → i < 16 → (if is_in i t.restarted then at_start else slice_index_or (map (counts_after (transmission c past w v)) (range_with_len 0 16)) i at_start) ≡ counts_of c (entry m v (attempt.Tried t) ∷ past) i =
    λ i lt.
    ap (λ (x : ErrorCounts). if is_in i t.restarted then at_start else x) (index-map (counts_after (transmission c past w v)) 0 16 i at_start lt ∙ ap (counts_after (transmission c past w v)) (omega arith))
    ∙ ap (λ (k : ℕ). if is_in i t.restarted then at_start else counts_after (transmission c past k v) i) (sym who)
    ∙ sym (counts-anew (is_in i t.restarted) (steps_of c past i) (steps_at i (transmission c past t.winner v))) in
    ap (λ (tr : Transmission). begun_anew t.restarted (record { count = c.ifaces; counters = (judged tr).counters })) (between-is c past w v legal few)
    ∙ ap (λ (cs : List ErrorCounts). record { count = c.ifaces; counters = cs })
    (map_below (λ i. if is_in i t.restarted then at_start else slice_index_or (map (counts_after (transmission c past w v)) (range_with_len 0 16)) i at_start) (counts_of c (entry m v (attempt.Tried t) ∷ past)) 0 16 (λ i lt. now i (omega (arith, lt))))

nodes-idle : (c : BusConfig) (past : List Entry) (m : ℕ) (v : Verdict) (rs : IfaceSet) → begun_anew rs (kept_nodes c past) ≡ kept_nodes c (entry m v (attempt.Idle rs) ∷ past)
unfolding kept_nodes
nodes-idle c past m v rs =
    ap (λ (cs : List ErrorCounts). record { count = c.ifaces; counters = cs })
    (map_below (λ i. if is_in i rs then at_start else slice_index_or (map (counts_of c past) (range_with_len 0 16)) i at_start) (counts_of c (entry m v (attempt.Idle rs) ∷ past)) 0 16
    (λ i lt.
    ap (λ (x : ErrorCounts). if is_in i rs then at_start else x) (index-map (counts_of c past) 0 16 i at_start (omega (arith, lt)) ∙ ap (counts_of c past) (omega arith))
    ∙ sym (counts-kept (is_in i rs) (steps_of c past i))))

-- ---- the attempts until restarts

on-tried : (c : BusConfig) (past : List Entry) (m : ℕ) (v : Verdict) (t : Tried) (i : ℕ) → t.restarted ≡ restarted_next c past → is_in i t.off ≡ false → CountsOn c past (entry m v (attempt.Tried t)) i
on-tried c past m v t i named live =
    ap (λ (rs : IfaceSet). if is_in i rs then None else if is_in i t.off then Some 0 else option_map suc (attempts_off past i)) named
    ∙ ap (λ (b : Bool). if is_in i (restarted_next c past) then None else if b then Some 0 else option_map suc (attempts_off past i)) live

left-tried : (c : BusConfig) (past : List Entry) (m : ℕ) (v : Verdict) (t : Tried) (w : ℕ) (l : InterfaceState) (p : Pending) → IsLegal c past → c.ifaces ≤ 16 → IsCarried c past m v t w l p
    → counting_down c.auto_restart w (is_in w t.off) (ticked (kept_left c past)) ≡ kept_left c (entry m v (attempt.Tried t) ∷ past)
left-tried c past m v t w l p legal few is = when (is_in w t.off) refl
  where
    named : t.restarted ≡ restarted_next c past
    named = ap (λ (u : Tried). u.restarted) is.tried_is

    stays : is_in w t.restarted ≡ false
    stays = ap (is_in w) named ∙ live-restarted-not c past legal w (live-not-off (state_at c past w) (winner-contends c past w is.won).live)

    others : (i : ℕ) → i ≢ w → CountsOn c past (entry m v (attempt.Tried t)) i
    others i ne = on-tried c past m v t i named (not-off c past m v t w i p.frame is.tried_is ne)

    all : is_in w t.off ≡ false → (i : ℕ) → CountsOn c past (entry m v (attempt.Tried t)) i
    all live i = elim (cases_eq i w) [
      | inl same ↦ on-tried c past m v t i named (ap (λ (k : ℕ). is_in k t.off) same ∙ live)
      | inr ne ↦ others i ne
    ]

    when : (b : Bool) → is_in w t.off ≡ b → counting_down c.auto_restart w b (ticked (kept_left c past)) ≡ kept_left c (entry m v (attempt.Tried t) ∷ past)
    when false live = left-counted c past (entry m v (attempt.Tried t)) (all live)
    when true off =
        left-off c past (entry m v (attempt.Tried t)) w (omega (arith, is.is_interface.below, few))
        (ap (λ (b : Bool). if b then None else if is_in w t.off then Some 0 else option_map suc (attempts_off past w)) stays ∙ ap (λ (b : Bool). if b then Some 0 else option_map suc (attempts_off past w)) off)
        others

-- ---- the sockets after the attempt

-- the items after a post are the ones that the longer history gives
pub filled_at : (c : BusConfig) (past : List Entry) (e : Entry) (o : ℕ) → length (taken_from past o) ≤ length (queued_to c past o)
    → places (e ∷ past) ≡ places past → filters_of (e ∷ past) o ≡ filters_of past o → options_of (e ∷ past) o ≡ options_of past o
    → taken_from (e ∷ past) o ≡ taken_from past o
    → filled (kept_socket c past o) (candidates_of c past o e.event e.reply) ≡ kept_socket c (e ∷ past) o
filled_at c past e o le same_places same_filters same_options same_taken =
    let cs = candidates_of c past o e.event e.reply in
    let room : capacity_of past o - length (drop (length (taken_from past o)) (queued_to c past o)) ≡ capacity_of past o + length (taken_from past o) - length (queued_to c past o) = omega (arith, length-drop {A = Received}) in
    let waits : drop (length (taken_from past o)) (queued_to c past o ++ take (capacity_of past o + length (taken_from past o) - length (queued_to c past o)) cs) ≡ drop (length (taken_from past o)) (queued_to c past o) ++ take (capacity_of past o + length (taken_from past o) - length (queued_to c past o)) cs =
    drop-append-le (length (taken_from past o)) (queued_to c past o) _ le in
    let counts : length (dropped_at c past o ++ drop (capacity_of past o + length (taken_from past o) - length (queued_to c past o)) cs) ≡ length (dropped_at c past o) + length (drop (capacity_of past o + length (taken_from past o) - length (queued_to c past o)) cs) =
    length-append (dropped_at c past o) _ in
    ap (λ n. record (kept_socket c past o) { waiting = drop (length (taken_from past o)) (queued_to c past o) ++ take n cs; dropped = length (dropped_at c past o) + length (drop n cs) }) room
    ∙ ap (λ (rs : List Received). record (kept_socket c past o) { waiting = rs; dropped = length (dropped_at c past o) + length (drop (capacity_of past o + length (taken_from past o) - length (queued_to c past o)) cs) }) (sym waits)
    ∙ ap (λ n. record (kept_socket c past o) { waiting = drop (length (taken_from past o)) (queued_to c (e ∷ past) o); dropped = n }) (sym counts)
    ∙ cc

pub map_open : (c : BusConfig) (past : List Entry) (f : SocketState → SocketState) (g : ℕ → SocketState) (xs : List ℕ) → ((k o : ℕ) → slice_get xs k ≡ Some o → f (kept_socket c past o) ≡ g o) → map f (map (kept_socket c past) xs) ≡ map g xs
map_open c past f g [] same = refl
map_open c past f g (x ∷ xs) same =
    let here : f (kept_socket c past x) ≡ g x = same zero x refl in
    let rest : map f (map (kept_socket c past) xs) ≡ map g xs = map_open c past f g xs (λ k o at. same (suc k) o at) in
    cc

-- every open socket gets the posts of an entry
pub sockets-told : (c : BusConfig) (past : List Entry) (e : Entry) (posts : ℕ → List Post) (old after : List SocketState) → IsLegal c past
    → old ≡ kept_sockets c past → ((i : ℕ) → posts i ≡ posts_of c past i e.event e.reply) → places (e ∷ past) ≡ places past
    → open_sockets (e ∷ past) ≡ open_sockets past → ((o : ℕ) → filters_of (e ∷ past) o ≡ filters_of past o)
    → ((o : ℕ) → options_of (e ∷ past) o ≡ options_of past o) → ((o : ℕ) → taken_from (e ∷ past) o ≡ taken_from past o)
    → after ≡ map (reached posts) old → after ≡ kept_sockets c (e ∷ past)
unfolding kept_sockets
sockets-told c past e posts old after legal are posts_are same_places same_open same_filters same_options same_taken told =
    told
    ∙ ap (map (reached posts)) are
    ∙ map_open c past (reached posts) (kept_socket c (e ∷ past)) (open_sockets past) (λ k o at.
    let there : is_open past o ≡ true = list_any_there (λ n. n == o) (open_sockets past) k o at (eq-eqb o o refl) in
    ap (λ (ps : List Post). filled (kept_socket c past o) (passing (filters_of past o) (options_of past o) o ps)) (posts_are (iface_of past o))
    ∙ ap (filled (kept_socket c past o)) (sym (cond-true (is_open past o) _ _ there))
    ∙ filled_at c past e o (taken_from-le-queued c past legal o) same_places (same_filters o) (same_options o) (same_taken o))
    ∙ ap (map (kept_socket c (e ∷ past))) (sym same_open)

posts-tried : (c : BusConfig) (past : List Entry) (m : ℕ) (v : Verdict) (t : Tried) (w : ℕ) (l : InterfaceState) (p : Pending) → IsLegal c past
    → c.ifaces ≤ 16 → IsCarried c past m v t w l p → (i : ℕ)
    → attempt_posts c.reporting (attempt_between (kept_nodes c past) w v c.ack) t (Some p) i ++ auto_restart_posts t.restarted m i ≡ posts_of c past i (event.Attempt m v) (reply.Attempted (attempt.Tried t))
posts-tried c past m v t w l p legal few is i =
    let who : w ≡ t.winner = sym (ap (λ (u : Tried). u.winner) is.tried_is) in
    let frame : Some p ≡ slice_get (sent_by past t.winner) t.number = sym is.head_is ∙ ap (λ (u : Tried). slice_get (sent_by past u.winner) u.number) (sym is.tried_is) in
    ap (λ (ps : List Post). ps ++ auto_restart_posts t.restarted m i)
    (ap (λ (tr : Transmission). attempt_posts c.reporting tr t (Some p) i) (between-is c past w v legal few)
    ∙ ap (λ (k : ℕ). attempt_posts c.reporting (transmission c past k v) t (Some p) i) who
    ∙ ap (λ (q : Option Pending). attempt_posts c.reporting (transmission c past t.winner v) t q i) frame)

-- sockets that get two groups of posts, one after the other
reached-both : (p q : ℕ → List Post) (vs : List SocketState) → map (reached q) (map (reached p) vs) ≡ map (reached (λ i. p i ++ q i)) vs
reached-both p q [] = refl
reached-both p q (v ∷ vs) =
    let here : reached q (reached p v) ≡ reached (λ i. p i ++ q i) v = filled-both v (reached p v) (reached q (reached p v)) (p v.iface) (q v.iface) refl refl in
    let rest = reached-both p q vs in
    cc

-- ---- the call

idle-same : (c : BusConfig) (past : List Entry) (m : ℕ) (v : Verdict) (rs : IfaceSet) → (kept_interfaces c (entry m v (attempt.Idle rs) ∷ past) ≡ kept_interfaces c past) × (kept_keys (entry m v (attempt.Idle rs) ∷ past) ≡ kept_keys past)
unfolding kept_interfaces kept_keys
idle-same c past m v rs = (refl, refl)

-- after an attempt, whether or not it tried a frame, the state is the one that the longer history gives
came_follows : (c : BusConfig) (past : List Entry) (m : ℕ) (v : Verdict) (o : Option Tried) (between new : Parts) → IsLegal c past → c.ifaces ≤ 16
    → Tries (counted c past) c m v (due_in (kept_left c past)) o between → new ≡ after_auto_restart between (due_in (kept_left c past)) m
    → Follows c past (entry m v (came_to (due_in (kept_left c past)) o)) new
came_follows c past m v None between new legal few tries after =
    let rs = due_in (kept_left c past) in
    let e = entry m v (attempt.Idle rs) in
    let due : rs ≡ restarted_next c past = due-kept c past legal in
    let same = idle-same c past m v rs in
    record {
      lawful = ap (λ (s : IfaceSet). reply.Attempted (attempt.Idle s)) due ∙ ap (attempt_reply c past m v) (sym (idle-is c past few tries.0));
      after = after
          ∙ ap (λ (p : Parts). after_auto_restart p rs m) tries.1
          ∙ parts-are (after_auto_restart (counted c past) rs m) (kept_parts c (e ∷ past)) (sym same.0) (sym same.1)
          (nodes-idle c past m v rs)
          (left-counted c past e (λ i. ap (λ (s : IfaceSet). if is_in i s then None else option_map suc (attempts_off past i)) due))
          (sockets-told c past e (auto_restart_posts rs m) (kept_sockets c past) _ legal refl (λ i. refl) refl refl (λ o. refl) (λ o. refl) (λ o. refl) refl)
          refl refl;
    }
came_follows c past m v (Some t) between new legal few k after =
    let e = entry m v (attempt.Tried t) in
    let w = k.place in
    let l = k.interface in
    let p = k.pending in
    let rs = due_in (kept_left c past) in
    let named : rs ≡ t.restarted = sym (ap (λ (u : Tried). u.restarted) k.tried) in
    let tr = attempt_between (kept_nodes c past) w v c.ack in
    let is = the_winner c past m v t between legal few k in
    record {
      lawful = reply-tried c past m v t w l p is;
      after = after
          ∙ ap (λ (q : Parts). after_auto_restart q rs m) k.after
          ∙ ap (λ (s : IfaceSet). after_auto_restart (after_try (counted c past) c tr l p t) s m) named
          ∙ parts-are (after_auto_restart (after_try (counted c past) c tr l p t) t.restarted m) (kept_parts c (e ∷ past))
          (interfaces-tried c past m v t w l p is)
          (keys-tried c past m v t w l p few is)
          (nodes-tried c past m v t w l p legal few is)
          (left-tried c past m v t w l p legal few is)
          (sockets-told c past e (λ i. attempt_posts c.reporting tr t (Some p) i ++ auto_restart_posts t.restarted m i) (kept_sockets c past) _ legal refl (posts-tried c past m v t w l p legal few is) refl refl (λ o. refl) (λ o. refl) (λ o. refl)
          (reached-both (attempt_posts c.reporting tr t (Some p)) (auto_restart_posts t.restarted m) (kept_sockets c past)))
          refl (sym (length_push (tape past) t));
    }

pub attempt_follows : (c : BusConfig) (past : List Entry) (m : ℕ) (v : Verdict) (r : Attempt) (new : Parts) → IsLegal c past → c.ifaces ≤ 16 → Attempts (kept_parts c past) c m v r new → Follows c past (entry m v r) new
attempt_follows c past m v r new legal few at = subst (λ (a : Attempt). Follows c past (entry m v a) new) (sym at.came) (came_follows c past m v at.tried at.between new legal few at.tries at.after)

pub sixteen_nodes : (j : Kept) (parts : Parts) → IsKept j parts → length parts.nodes.counters ≡ 16
sixteen_nodes j parts kept = ap (λ (q : Parts). length q.nodes.counters) kept.of_parts ∙ length-counters j.config j.history

pub few_nodes : (j : Kept) (parts : Parts) → IsKept j parts → parts.nodes.count ≤ 16
few_nodes j parts kept = omega (arith, ap (λ (q : Parts). q.nodes.count) kept.of_parts ∙ count-kept j.config j.history, kept.proper.few_ifaces)

kept-ready : (c : BusConfig) (past : List Entry) → IsLegal c past → c.ifaces ≤ 16 → AreReady (kept_parts c past)
kept-ready c past legal few w k at =
    let has = holds_key past w k at in
    let below : w < c.ifaces = head-below c past legal w has.pending has.head in
    record {
      there = omega (arith, below, length-kept_interfaces c past);
      counted = omega (arith, below, count-kept c past);
      live = is_silent_at-kept c past w has.few ∙ not_true (is_silent (state_at c past w)) (λ silent. let none = off-no-head c past legal few w silent in clash has.pending (head_of past w) has.head none);
      has_head = λ l at_w.
          let interface = IsInterface-at c past (kept_interfaces c past) w l refl at_w in
          ap (λ (x : InterfaceState). is_some (slice_get x.waiting 0)) interface.left ∙ ap (λ (q : Option Pending). is_some q) (slice_get-drop (gone_count past w) (sent_by past w) ∙ has.head);
    }
  where
    not_true : (b : Bool) → (b ≡ true → ⊥) → b ≡ false
    not_true true h = absurd (h refl)
    not_true false h = refl

    clash : (p : Pending) (q : Option Pending) → q ≡ Some p → q ≡ None → ⊥
    clash p q some none = cc

-- each interface with an arbitration key exists, is live, and has a frame to send
pub ready : (j : Kept) (parts : Parts) → IsKept j parts → AreReady parts
ready j parts kept = subst AreReady (sym kept.of_parts) (kept-ready j.config j.history kept.legal kept.proper.few_ifaces)

-- the number of interfaces is at least the number of nodes
pub nodes_there : (j : Kept) (parts : Parts) → IsKept j parts → parts.nodes.count ≤ length parts.interfaces
nodes_there j parts kept =
    omega (arith, ap (λ (q : Parts). q.nodes.count) kept.of_parts ∙ count-kept j.config j.history, ap (λ (q : Parts). length q.interfaces) kept.of_parts ∙ length-kept_interfaces j.config j.history)

-- on a bus without automatic restart, no interface counts attempts
pub never_left : (j : Kept) (parts : Parts) (c : BusConfig) → IsKept j parts → c ≡ j.config → c.auto_restart ≡ 0 → parts.left ≡ replicate 16 0
never_left j parts c kept same never = ap (λ (q : Parts). q.left) kept.of_parts ∙ left-never j.config j.history (ap (λ (k : BusConfig). k.auto_restart) (sym same) ∙ never)
