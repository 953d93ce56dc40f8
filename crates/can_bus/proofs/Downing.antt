use Rattle.std.proofs.Common.{◌≡◌, ◌≢◌, ℕ, ◌<◌, ◌≤◌, ◌==◌, nat_le, List, [], ◌∷◌, ◌++◌, length, map, drop, slice_get, slice_set, Option, None, refl, sym, ap, ◌∙◌, arith}
use Rattle.std.specs.List.{range_with_len}
use Rattle.std.proofs.lemmas.Bool.{eq-eqb, ne_eqb, cond-true, cond-false, le-leb, lt-leb}
use Rattle.std.proofs.lemmas.Option.{slice_get_past}
use Rattle.can_confine.specs.Confinement.{ErrorCounts, Step, all_stepped, stepped, at_start}
use Rattle.can_confine.specs.Confinement.Step.{TakenDown}
use Rattle.can_attempt.specs.Attempts.{counts_at}
use Rattle.can_event.specs.declared.bus_config.BusConfig.{BusConfig}
use Rattle.can_event.specs.declared.entry.Entry.{Entry}
use Rattle.can_event.specs.declared.event.Event.TheVariants.{Down}
use Rattle.can_event.specs.declared.pending.Pending.{Pending}
use Rattle.can_event.specs.declared.reply.Reply.{Reply}
use Rattle.can_event.specs.declared.reply.Reply.TheVariants as reply
use Rattle.can_event.specs.declared.refusal.Refusal.TheVariants as refusal
use Rattle.can_bus.specs.Transmit.{sent_by, gone_count, head_of}
use Rattle.can_bus.specs.Counters.{counts_of, steps_of}
use Rattle.can_bus.specs.AutoRestart.{attempts_off}
use Rattle.can_bus.specs.State.{InterfaceState, Parts, key_in, kept_interface, kept_interfaces, kept_keys, kept_nodes, kept_left, kept_parts}
use Rattle.can_bus.specs.Changes.{TakesDown, after_down, emptied}
use Rattle.can_bus.proofs.Attempting.{count-kept, drop-all}
use Rattle.can_bus.proofs.InterfaceFacts.{IsInterface, IsInterface-at, kept_interfaces-one}
use Rattle.can_bus.proofs.Keeping.{Follows, IsQuiet, follows_refused, kept_sockets-quiet, parts-are}
use Rattle.can_bus.proofs.KeyFacts.{kept_keys-one, sixteen-one}
use Rattle.can_bus.proofs.NodeFacts.{counts_at-kept}
use Rattle.can_bus.proofs.OffFacts.{all_stepped-append}
use Rattle.can_bus.proofs.Restarting.{left-stopped}

abbrev pub entry : ℕ → ℕ → Reply → Entry
entry i m r = record { event = Down i m; reply = r }

abbrev down : ℕ → ℕ → Entry
down i m = entry i m reply.Done

-- ---- its frames have left the queue

gone-here : (past : List Entry) (i m : ℕ) → gone_count (down i m ∷ past) i ≡ length (sent_by past i)
gone-here past i m = cond-true (i == i) (length (sent_by past i)) (gone_count past i) (eq-eqb i i refl)

gone-other : (past : List Entry) (i m j : ℕ) → j ≢ i → gone_count (down i m ∷ past) j ≡ gone_count past j
gone-other past i m j ne = cond-false (i == j) (length (sent_by past j)) (gone_count past j) (ne_eqb i j (λ e. ne (sym e)))

interface-here : (c : BusConfig) (past : List Entry) (i m : ℕ) (l : InterfaceState) → l ≡ kept_interface c past i → emptied l ≡ kept_interface c (down i m ∷ past) i
interface-here c past i m l is =
    ap emptied is
    ∙ ap (λ (ps : List Pending). record (kept_interface c past i) { waiting = ps; gone = length (sent_by past i) }) (sym (drop-all (sent_by past i)))
    ∙ ap (λ (n : ℕ). record (kept_interface c past i) { waiting = drop n (sent_by past i); gone = n }) (sym (gone-here past i m))

interface-other : (c : BusConfig) (past : List Entry) (i m j : ℕ) → j ≢ i → kept_interface c (down i m ∷ past) j ≡ kept_interface c past j
interface-other c past i m j ne = ap (λ (n : ℕ). record (kept_interface c past j) { waiting = drop n (sent_by past j); gone = n }) (gone-other past i m j ne)

interfaces-down : (c : BusConfig) (past : List Entry) (i m : ℕ) (l : InterfaceState) → IsInterface c past i l → slice_set (kept_interfaces c past) i (emptied l) ≡ kept_interfaces c (down i m ∷ past)
interfaces-down c past i m l is =
    ap (slice_set (kept_interfaces c past) i) (interface-here c past i m l is.left)
    ∙ sym (kept_interfaces-one c past (down i m) i is.below (interface-other c past i m))

head-here : (past : List Entry) (i m : ℕ) → head_of (down i m ∷ past) i ≡ None
head-here past i m = slice_get_past (sent_by past i) (gone_count (down i m ∷ past) i) (let all = gone-here past i m in omega (arith, all))

keys-down : (past : List Entry) (i m : ℕ) → i < 16 → slice_set (kept_keys past) i None ≡ kept_keys (down i m ∷ past)
keys-down past i m lt =
    ap (λ (p : Option Pending). slice_set (kept_keys past) i (key_in p)) (sym (head-here past i m))
    ∙ sym (kept_keys-one past (down i m) i lt (λ j ne. ap (λ (n : ℕ). slice_get (sent_by past j) n) (gone-other past i m j ne)))

-- ---- it no longer counts errors or attempts

counts-here : (c : BusConfig) (past : List Entry) (i m : ℕ) → counts_of c (down i m ∷ past) i ≡ stepped (counts_of c past i) TakenDown
counts-here c past i m =
    ap (λ (ss : List Step). all_stepped at_start ss) (cond-true (i == i) (steps_of c past i ++ TakenDown ∷ []) (steps_of c past i) (eq-eqb i i refl))
    ∙ all_stepped-append at_start (steps_of c past i) (TakenDown ∷ [])

counts-other : (c : BusConfig) (past : List Entry) (i m j : ℕ) → j ≢ i → counts_of c (down i m ∷ past) j ≡ counts_of c past j
counts-other c past i m j ne = ap (λ (ss : List Step). all_stepped at_start ss) (cond-false (i == j) (steps_of c past j ++ TakenDown ∷ []) (steps_of c past j) (ne_eqb i j (λ e. ne (sym e))))

nodes-down : (c : BusConfig) (past : List Entry) (i m : ℕ) → i < 16 → record (kept_nodes c past) { counters = slice_set (kept_nodes c past).counters i (stepped (counts_at (kept_nodes c past) i) TakenDown) } ≡ kept_nodes c (down i m ∷ past)
unfolding kept_nodes
nodes-down c past i m lt =
    ap (λ (k : ErrorCounts). record { count = c.ifaces; counters = slice_set (map (counts_of c past) (range_with_len 0 16)) i (stepped k TakenDown) }) (counts_at-kept c past i lt)
    ∙ ap (λ (k : ErrorCounts). record { count = c.ifaces; counters = slice_set (map (counts_of c past) (range_with_len 0 16)) i k }) (sym (counts-here c past i m))
    ∙ ap (λ (ks : List ErrorCounts). record { count = c.ifaces; counters = ks }) (sym (sixteen-one (counts_of c past) (counts_of c (down i m ∷ past)) i 16 lt (counts-other c past i m)))

left-down : (c : BusConfig) (past : List Entry) (i m : ℕ) → i < 16 → slice_set (kept_left c past) i 0 ≡ kept_left c (down i m ∷ past)
left-down c past i m lt =
    left-stopped c past (down i m) i lt (cond-true (i == i) None (attempts_off past i) (eq-eqb i i refl)) (λ j ne. cond-false (i == j) None (attempts_off past j) (ne_eqb i j (λ e. ne (sym e))))

-- ---- no socket gets an item

down-quiet : (c : BusConfig) (past : List Entry) (i m : ℕ) → IsQuiet c past (down i m)
down-quiet c past i m = record { of_places = refl; of_open = refl; of_filters = λ o. refl; of_options = λ o. refl; of_taken = λ o. refl; of_posts = λ o. refl }

-- after an interface is taken down, or that is refused, the state is the one that the longer history gives
pub taken_down_follows : (c : BusConfig) (past : List Entry) (i m : ℕ) (r : Reply) (new : Parts) → c.ifaces ≤ 16 → TakesDown (kept_parts c past) i r new → Follows c past (entry i m r) new
taken_down_follows c past i m reply.Done new few goes =
    let e = down i m in
    let old = kept_parts c past in
    let l = goes.interface in
    let is = IsInterface-at c past (kept_interfaces c past) i l refl goes.there in
    let few_i : i < 16 = omega (arith, is.below, few) in
    record {
      lawful = sym (cond-false (nat_le c.ifaces i) _ _ (lt-leb c.ifaces i is.below));
      after = goes.after ∙ parts-are (after_down old i l) (kept_parts c (e ∷ past))
          (interfaces-down c past i m l is)
          (keys-down past i m few_i)
          (nodes-down c past i m few_i)
          (left-down c past i m few_i)
          (sym (kept_sockets-quiet c past e (down-quiet c past i m)))
          refl refl;
    }
taken_down_follows c past i m (reply.Refused refusal.NoInterface) new few goes =
    let beyond : c.ifaces ≤ i = omega (arith, goes.0, count-kept c past) in
    follows_refused c past (Down i m) refusal.NoInterface new tt goes.1 (sym (cond-true (nat_le c.ifaces i) _ _ (le-leb c.ifaces i beyond)))
taken_down_follows c past i m _ new few goes = absurd goes
