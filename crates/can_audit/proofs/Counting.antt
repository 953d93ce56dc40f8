use Rattle.std.proofs.Common.{◌≡◌, ◌≢◌, ℕ, ◌+◌, ◌<◌, ◌==◌, nat_le, Bool, true, false, if◌then◌else◌, List, [], ◌∷◌, ◌++◌, length, map, get_or, slice_set, refl, sym, ap, ◌∙◌, subst, arith}
use mathlib.Core.Path.{fun_ext}
use Rattle.std.specs.List.{range_with_len}
use Rattle.std.proofs.lemmas.Bool.{cond-false, cond-true, eq-eqb, leb-false, ne_eqb}
use Rattle.can_confine.specs.Confinement.{ErrorCounts, all_stepped, at_start, state_of, stepped, is_silent}
use Rattle.can_confine.specs.Confinement.Step.{TakenDown}
use Rattle.can_fault.specs.declared.verdict.Verdict.{Verdict}
use Rattle.can_attempt.specs.declared.nodes.Nodes.{Nodes}
use Rattle.can_attempt.specs.Attempts.{Transmission, counts_at, counts_after, judged, steps_at}
use Rattle.can_event.specs.declared.bus_config.BusConfig.{BusConfig}
use Rattle.can_event.specs.declared.entry.Entry.{Entry}
use Rattle.can_event.specs.declared.event.Event.{Event}
use Rattle.can_event.specs.declared.event.Event.TheVariants.{Open, Close, SetFilters, SetOption, Send, Receive, Attempt, Restart, Down}
use Rattle.can_event.specs.declared.reply.Reply.{Reply}
use Rattle.can_event.specs.declared.reply.Reply.TheVariants as reply
use Rattle.can_event.specs.declared.refusal.Refusal.TheVariants as refusal
use Rattle.can_event.specs.declared.attempt.Tried.{Tried}
use Rattle.can_event.specs.declared.attempt.Attempt.{Attempt as AnAttempt}
use Rattle.can_event.specs.declared.attempt.Attempt.TheVariants as attempt
use Rattle.can_frame.specs.declared.iface.IfaceSet.{IfaceSet}
use Rattle.can_frame.specs.Sets.{is_in}
use Rattle.can_bus.specs.Changes.{begun_anew}
use Rattle.can_bus.specs.Counters.{counts_of, steps_of, state_at, transmission}
use Rattle.can_bus.specs.Legal.{legal_reply}
use Rattle.can_bus.specs.State.{kept_nodes}
use Rattle.can_bus.proofs.Attempting.{between-is, count-kept, counts_at-all}
use Rattle.can_bus.proofs.Lawful.{WasTried, by_attempt}
use Rattle.can_bus.proofs.NodeFacts.{counts_at-kept}
use Rattle.can_bus.proofs.OffFacts.{all_stepped-append, winner-contends}
use Rattle.can_bus.proofs.KeyFacts.{sixteen-one}
use Rattle.can_bus.proofs.Restarting.{nodes-restarted}
use Rattle.can_replay.proofs.EntriesBefore.{before_more}
use Rattle.can_audit.specs.inner.Counted.{Counts, IsLive, judged_nodes}
use Rattle.can_event.specs.Replies.{entry_of}
use Rattle.can_replay.specs.Histories.{before, IsHistory}

-- The error counts of all interfaces after each entry.

-- ---- the sending interface exists and is neither bus off nor down

pub live-kept : (c : BusConfig) (past : List Entry) (i : ℕ) → IsHistory c past → i < c.ifaces → is_silent (state_of (counts_of c past i)) ≡ false → IsLive (kept_nodes c past) i
live-kept c past i h below live =
    let count = count-kept c past in
    record {
      few = omega (arith, count, h.proper.few_ifaces);
      there = omega (arith, count, below);
      live = ap (λ (k : ErrorCounts). is_silent (state_of k)) (counts_at-all c past h.legal h.proper.few_ifaces i) ∙ live;
    }

pub winner-live : (c : BusConfig) (past : List Entry) (m : ℕ) (v : Verdict) (t : Tried) → IsHistory c past → WasTried c past m v t → IsLive (kept_nodes c past) t.winner
winner-live c past m v t h w =
    let contends = winner-contends c past w.place w.won in
    subst (IsLive (kept_nodes c past)) (sym (ap (λ (u : Tried). u.winner) w.is)) (live-kept c past w.place h contends.below contends.live)

pub earlier : (c : BusConfig) (e : Entry) (past : List Entry) → IsHistory c (e ∷ past) → IsHistory c past
earlier c e past h = record { proper = h.proper; legal = h.legal.2 }

-- ---- the error counts after an entry

counts-tried : (c : BusConfig) (past : List Entry) (m : ℕ) (v : Verdict) (t : Tried) (i : ℕ)
    → counts_of c (entry_of (Attempt m v) (reply.Attempted (attempt.Tried t)) ∷ past) i ≡ (if is_in i t.restarted then at_start else counts_after (transmission c past t.winner v) i)
counts-tried c past m v t i = when (is_in i t.restarted)
  where
    when : (b : Bool) → all_stepped at_start (if b then [] else steps_of c past i ++ steps_at i (transmission c past t.winner v)) ≡ (if b then at_start else counts_after (transmission c past t.winner v) i)
    when true = refl
    when false = all_stepped-append at_start (steps_of c past i) (steps_at i (transmission c past t.winner v))

counts-idle : (c : BusConfig) (past : List Entry) (m : ℕ) (v : Verdict) (set : IfaceSet) (i : ℕ)
    → counts_of c (entry_of (Attempt m v) (reply.Attempted (attempt.Idle set)) ∷ past) i ≡ (if is_in i set then at_start else counts_of c past i)
counts-idle c past m v set i = when (is_in i set)
  where
    when : (b : Bool) → all_stepped at_start (if b then [] else steps_of c past i) ≡ (if b then at_start else counts_of c past i)
    when true = refl
    when false = refl

-- the counts of some interfaces are reset
anew : (n : ℕ) (set : IfaceSet) (f : ℕ → ErrorCounts)
    → begun_anew set (record { count = n; counters = map f (range_with_len 0 16) }) ≡ record { count = n; counters = map (λ i. if is_in i set then at_start else f i) (range_with_len 0 16) }
anew n set f = refl

map_all : (f g : ℕ → ErrorCounts) (xs : List ℕ) → ((i : ℕ) → f i ≡ g i) → map f xs ≡ map g xs
map_all f g xs same = ap (λ (h : ℕ → ErrorCounts). map h xs) (fun_ext same)

nodes-tried : (c : BusConfig) (past : List Entry) (m : ℕ) (v : Verdict) (t : Tried) (old new : Nodes) → IsHistory c past → old ≡ kept_nodes c past
    → new ≡ begun_anew t.restarted (judged_nodes old t.winner v c.ack)
    → new ≡ kept_nodes c (entry_of (Attempt m v) (reply.Attempted (attempt.Tried t)) ∷ past)
unfolding kept_nodes
nodes-tried c past m v t old new h are after =
    after
    ∙ ap (λ (n : Nodes). begun_anew t.restarted (judged_nodes n t.winner v c.ack)) are
    ∙ ap (λ (tr : Transmission). begun_anew t.restarted (record { count = c.ifaces; counters = (judged tr).counters })) (between-is c past t.winner v h.legal h.proper.few_ifaces)
    ∙ anew c.ifaces t.restarted (counts_after (transmission c past t.winner v))
    ∙ ap (λ (cs : List ErrorCounts). record { count = c.ifaces; counters = cs })
    (map_all (λ i. if is_in i t.restarted then at_start else counts_after (transmission c past t.winner v) i) (counts_of c (entry_of (Attempt m v) (reply.Attempted (attempt.Tried t)) ∷ past)) (range_with_len 0 16)
    (λ i. sym (counts-tried c past m v t i)))

nodes-idle : (c : BusConfig) (past : List Entry) (m : ℕ) (v : Verdict) (set : IfaceSet) (old new : Nodes)
    → old ≡ kept_nodes c past → new ≡ begun_anew set old → new ≡ kept_nodes c (entry_of (Attempt m v) (reply.Attempted (attempt.Idle set)) ∷ past)
unfolding kept_nodes
nodes-idle c past m v set old new are after =
    after
    ∙ ap (begun_anew set) are
    ∙ anew c.ifaces set (counts_of c past)
    ∙ ap (λ (cs : List ErrorCounts). record { count = c.ifaces; counters = cs })
    (map_all (λ i. if is_in i set then at_start else counts_of c past i) (counts_of c (entry_of (Attempt m v) (reply.Attempted (attempt.Idle set)) ∷ past)) (range_with_len 0 16)
    (λ i. sym (counts-idle c past m v set i)))

tried-law : (c : BusConfig) (past : List Entry) (e : Event) (t : Tried) (old new : Nodes) → IsHistory c past → reply.Attempted (attempt.Tried t) ≡ legal_reply c past e → old ≡ kept_nodes c past → Counts c e (reply.Attempted (attempt.Tried t)) old new → new ≡ kept_nodes c (entry_of e (reply.Attempted (attempt.Tried t)) ∷ past)
tried-law c past e t old new h law are =
    by_attempt (λ k. Counts c k (reply.Attempted (attempt.Tried t)) old new → new ≡ kept_nodes c (entry_of k (reply.Attempted (attempt.Tried t)) ∷ past)) c past e t law
    (λ m v w counted.
    let live : IsLive old t.winner = subst (λ (n : Nodes). IsLive n t.winner) (sym are) (winner-live c past m v t h w) in
    nodes-tried c past m v t old new h are (counted live))

-- if a restart has this reply, the interface exists
restart-below : (c : BusConfig) (past : List Entry) (i m : ℕ) → reply.Done ≡ legal_reply c past (Restart i m) → i < c.ifaces
restart-below c past i m law = when (nat_le c.ifaces i) refl law
  where
    when : (b : Bool) → nat_le c.ifaces i ≡ b → reply.Done ≡ (if b then reply.Refused refusal.NoInterface else if is_silent (state_at c past i) then reply.Done else reply.Refused refusal.NotBusOff) → i < c.ifaces
    when true above l = cc
    when false below l = leb-false c.ifaces i below

down-below : (c : BusConfig) (past : List Entry) (i m : ℕ) → reply.Done ≡ legal_reply c past (Down i m) → i < c.ifaces
down-below c past i m law = when (nat_le c.ifaces i) refl law
  where
    when : (b : Bool) → nat_le c.ifaces i ≡ b → reply.Done ≡ (if b then reply.Refused refusal.NoInterface else reply.Done) → i < c.ifaces
    when true above l = cc
    when false below l = leb-false c.ifaces i below

-- an interface that is taken down keeps its error counts, and so does every other interface
counts-down : (c : BusConfig) (past : List Entry) (i m : ℕ) → counts_of c (entry_of (Down i m) reply.Done ∷ past) i ≡ stepped (counts_of c past i) TakenDown
counts-down c past i m =
    ap (all_stepped at_start) (cond-true (i == i) (steps_of c past i ++ TakenDown ∷ []) (steps_of c past i) (eq-eqb i i refl))
    ∙ all_stepped-append at_start (steps_of c past i) (TakenDown ∷ [])

counts-others : (c : BusConfig) (past : List Entry) (i m j : ℕ) → j ≢ i → counts_of c (entry_of (Down i m) reply.Done ∷ past) j ≡ counts_of c past j
counts-others c past i m j other =
    ap (all_stepped at_start) (cond-false (i == j) (steps_of c past j ++ TakenDown ∷ []) (steps_of c past j) (ne_eqb i j (λ e. other (sym e))))

nodes-down : (c : BusConfig) (past : List Entry) (i m : ℕ) (old new : Nodes) → i < 16 → old ≡ kept_nodes c past → new ≡ record old { counters = slice_set old.counters i (stepped (counts_at old i) TakenDown) } → new ≡ kept_nodes c (entry_of (Down i m) reply.Done ∷ past)
unfolding kept_nodes
nodes-down c past i m old new few are after =
    after
    ∙ ap (λ (n : Nodes). record n { counters = slice_set n.counters i (stepped (counts_at n i) TakenDown) }) are
    ∙ ap (λ (k : ErrorCounts). record { count = c.ifaces; counters = slice_set (map (counts_of c past) (range_with_len 0 16)) i (stepped k TakenDown) }) (counts_at-kept c past i few)
    ∙ ap (λ (k : ErrorCounts). record { count = c.ifaces; counters = slice_set (map (counts_of c past) (range_with_len 0 16)) i k }) (sym (counts-down c past i m))
    ∙ ap (λ (ks : List ErrorCounts). record { count = c.ifaces; counters = ks }) (sym (sixteen-one (counts_of c past) (counts_of c (entry_of (Down i m) reply.Done ∷ past)) i 16 few (counts-others c past i m)))

pub counted-kept : (c : BusConfig) (past : List Entry) (e : Event) (r : Reply) (old new : Nodes) → IsHistory c past → r ≡ legal_reply c past e → old ≡ kept_nodes c past → Counts c e r old new → new ≡ kept_nodes c (entry_of e r ∷ past)
unfolding kept_nodes
counted-kept c past e (reply.Attempted (attempt.Tried t)) old new h law are counted = tried-law c past e t old new h law are counted
counted-kept c past (Restart i m) reply.Done old new h law are counted = nodes-restarted c past i m old new (omega (arith, restart-below c past i m law, h.proper.few_ifaces)) are counted
counted-kept c past (Down i m) reply.Done old new h law are counted = nodes-down c past i m old new (omega (arith, down-below c past i m law, h.proper.few_ifaces)) are counted
counted-kept c past (Attempt m v) (reply.Attempted (attempt.Idle set)) old new h law are counted = nodes-idle c past m v set old new are counted
counted-kept c past (Open i n) _ old new h law are counted = counted ∙ are
counted-kept c past (Close s) _ old new h law are counted = counted ∙ are
counted-kept c past (SetFilters s f) _ old new h law are counted = counted ∙ are
counted-kept c past (SetOption s o) _ old new h law are counted = counted ∙ are
counted-kept c past (Send s f) _ old new h law are counted = counted ∙ are
counted-kept c past (Receive s) _ old new h law are counted = counted ∙ are
counted-kept c past (Attempt m v) _ old new h law are counted = counted ∙ are
counted-kept c past (Restart i m) _ old new h law are counted = counted ∙ are
counted-kept c past (Down i m) _ old new h law are counted = counted ∙ are

-- ---- the error counts after successive entries

pub counts-as : (c : BusConfig) (e : Event) (r : Reply) (old new : Nodes) (m : ℕ) (v : Verdict) (a : AnAttempt) → e ≡ Attempt m v → r ≡ reply.Attempted a → Counts c (Attempt m v) (reply.Attempted a) old new → Counts c e r old new
counts-as c e r old new m v a event_is reply_is counted =
    subst (λ (k : Event). Counts c k r old new) (sym event_is) (subst (λ (k : Reply). Counts c (Attempt m v) k old new) (sym reply_is) counted)

abbrev all_at : BusConfig → ErrorCounts → Nodes
all_at c z = record { count = c.ifaces; counters = z ∷ z ∷ z ∷ z ∷ z ∷ z ∷ z ∷ z ∷ z ∷ z ∷ z ∷ z ∷ z ∷ z ∷ z ∷ z ∷ [] }

pub first-nodes : (c : BusConfig) (z : ErrorCounts) → z ≡ at_start → all_at c z ≡ kept_nodes c []
unfolding kept_nodes
first-nodes c z is = ap (all_at c) is

pub counted_more : (c : BusConfig) (es : List Entry) (k : ℕ) (e : Entry) (old new : Nodes) → k < length es → e ≡ get_or es k e
    → (IsHistory c (before es k) → old ≡ kept_nodes c (before es k)) → Counts c e.event e.reply old new → IsHistory c (before es (k + 1))
    → new ≡ kept_nodes c (before es (k + 1))
counted_more c es k e old new lt read so_far counted h =
    let more = before_more es k e lt read in
    let here : IsHistory c (e ∷ before es k) = subst (IsHistory c) more h in
    let past : IsHistory c (before es k) = earlier c e (before es k) here in
    counted-kept c (before es k) e.event e.reply old new past here.legal.1 (so_far past) counted ∙ ap (kept_nodes c) (sym more)

-- the state of an interface, from the stored error counts
pub state-kept : (c : BusConfig) (past : List Entry) (nodes : Nodes) (i : ℕ) → i < 16 → nodes ≡ kept_nodes c past → state_of (counts_at nodes i) ≡ state_at c past i
state-kept c past nodes i few are = ap (λ (n : Nodes). state_of (counts_at n i)) are ∙ ap state_of (counts_at-kept c past i few)

-- whether an interface is bus off or down, from the stored error counts
pub silent-kept : (c : BusConfig) (past : List Entry) (nodes : Nodes) (i : ℕ) (silent : Bool) → i < 16 → nodes ≡ kept_nodes c past → silent ≡ is_silent (state_of (counts_at nodes i)) → silent ≡ is_silent (state_at c past i)
silent-kept c past nodes i silent few are is = is ∙ ap is_silent (state-kept c past nodes i few are)
