use Rattle.std.proofs.Common.{◌≡◌, ◌≢◌, ℕ, ◌<◌, ◌≤◌, ◌==◌, nat_le, true, false, List, [], ◌∷◌, map, slice_set, None, refl, sym, ap, ◌∙◌, arith}
use Rattle.std.specs.List.{range_with_len}
use Rattle.std.proofs.lemmas.Bool.{eq-eqb, ne_eqb, cond-true, cond-false, le-leb, lt-leb}
use Rattle.can_confine.specs.Confinement.{ErrorCounts, Step, all_stepped, at_start, is_silent}
use Rattle.can_attempt.specs.declared.nodes.Nodes.{Nodes}
use Rattle.can_event.specs.declared.bus_config.BusConfig.{BusConfig}
use Rattle.can_event.specs.declared.entry.Entry.{Entry}
use Rattle.can_event.specs.declared.event.Event.TheVariants.{Restart}
use Rattle.can_event.specs.declared.reply.Reply.{Reply}
use Rattle.can_event.specs.declared.reply.Reply.TheVariants as reply
use Rattle.can_event.specs.declared.refusal.Refusal.TheVariants as refusal
use Rattle.can_bus.specs.Counters.{counts_of, steps_of, state_at}
use Rattle.can_bus.specs.AutoRestart.{attempts_off, attempts_left, left_after}
use Rattle.can_bus.specs.Posts.{restart_posts}
use Rattle.can_bus.specs.Legal.{IsLegal}
use Rattle.can_bus.specs.State.{Parts, kept_interfaces, kept_keys, kept_nodes, kept_left, kept_sockets, kept_parts}
use Rattle.can_bus.specs.Changes.{Restarts, after_restart}
use Rattle.can_bus.proofs.Attempting.{sockets-told, count-kept}
use Rattle.can_bus.proofs.Keeping.{Follows, follows_refused, parts-are}
use Rattle.can_bus.proofs.KeyFacts.{sixteen-one}
use Rattle.can_bus.proofs.NodeFacts.{is_silent_at-kept}

abbrev pub entry : ℕ → ℕ → Reply → Entry
entry i m r = record { event = Restart i m; reply = r }

still : (c : BusConfig) (past : List Entry) (i m : ℕ) → (kept_interfaces c (entry i m reply.Done ∷ past) ≡ kept_interfaces c past) × (kept_keys (entry i m reply.Done ∷ past) ≡ kept_keys past)
unfolding kept_interfaces kept_keys
still c past i m = (refl, refl)

counts-restarted : (c : BusConfig) (past : List Entry) (i m : ℕ) → counts_of c (entry i m reply.Done ∷ past) i ≡ at_start
counts-restarted c past i m = ap (λ (ss : List Step). all_stepped at_start ss) (cond-true (i == i) [] (steps_of c past i) (eq-eqb i i refl))

counts-other : (c : BusConfig) (past : List Entry) (i m j : ℕ) → j ≢ i → counts_of c (entry i m reply.Done ∷ past) j ≡ counts_of c past j
counts-other c past i m j ne = ap (λ (ss : List Step). all_stepped at_start ss) (cond-false (i == j) [] (steps_of c past j) (ne_eqb i j (λ e. ne (sym e))))

-- the error counts in the state after an interface was restarted
pub nodes-restarted : (c : BusConfig) (past : List Entry) (i m : ℕ) (old new : Nodes) → i < 16 → old ≡ kept_nodes c past → new ≡ record old { counters = slice_set old.counters i at_start } → new ≡ kept_nodes c (entry i m reply.Done ∷ past)
unfolding kept_nodes
nodes-restarted c past i m old new lt are after =
    after
    ∙ ap (λ (n : Nodes). record n { counters = slice_set n.counters i at_start }) are
    ∙ ap (λ (k : ErrorCounts). record { count = c.ifaces; counters = slice_set (map (counts_of c past) (range_with_len 0 16)) i k }) (sym (counts-restarted c past i m))
    ∙ ap (λ (ks : List ErrorCounts). record { count = c.ifaces; counters = ks }) (sym (sixteen-one (counts_of c past) (counts_of c (entry i m reply.Done ∷ past)) i 16 lt (counts-other c past i m)))

-- an interface that no longer counts attempts
pub left-stopped : (c : BusConfig) (past : List Entry) (e : Entry) (i : ℕ) → i < 16 → attempts_off (e ∷ past) i ≡ None → ((j : ℕ) → j ≢ i → attempts_off (e ∷ past) j ≡ attempts_off past j) → slice_set (kept_left c past) i 0 ≡ kept_left c (e ∷ past)
unfolding kept_left
left-stopped c past e i lt stopped others =
    let here : attempts_left c (e ∷ past) i ≡ 0 = ap (left_after c.auto_restart) stopped in
    ap (slice_set (map (attempts_left c past) (range_with_len 0 16)) i) (sym here)
    ∙ sym (sixteen-one (attempts_left c past) (attempts_left c (e ∷ past)) i 16 lt (λ j ne. ap (left_after c.auto_restart) (others j ne)))

left-restarted : (c : BusConfig) (past : List Entry) (i m : ℕ) → i < 16 → slice_set (kept_left c past) i 0 ≡ kept_left c (entry i m reply.Done ∷ past)
left-restarted c past i m lt =
    left-stopped c past (entry i m reply.Done) i lt (cond-true (i == i) None (attempts_off past i) (eq-eqb i i refl)) (λ j ne. cond-false (i == j) None (attempts_off past j) (ne_eqb i j (λ e. ne (sym e))))

-- after an interface is restarted, or that is refused, the state is the one that the longer history gives
pub restarted_follows : (c : BusConfig) (past : List Entry) (i m : ℕ) (r : Reply) (new : Parts) → IsLegal c past → c.ifaces ≤ 16 → Restarts (kept_parts c past) i m r new → Follows c past (entry i m r) new
restarted_follows c past i m reply.Done new legal few restarts =
    let e = entry i m reply.Done in
    let old = kept_parts c past in
    let below : i < c.ifaces = omega (arith, restarts.0, count-kept c past) in
    let few_i : i < 16 = omega arith in
    let silent : is_silent (state_at c past i) ≡ true = sym (is_silent_at-kept c past i few_i) ∙ restarts.1 in
    let same = still c past i m in
    record {
      lawful = sym (cond-false (nat_le c.ifaces i) _ _ (lt-leb c.ifaces i below) ∙ cond-true (is_silent (state_at c past i)) _ _ silent);
      after = restarts.2 ∙ parts-are (after_restart old i m) (kept_parts c (e ∷ past)) (sym same.0) (sym same.1)
          (nodes-restarted c past i m (kept_nodes c past) _ few_i refl refl)
          (left-restarted c past i m few_i)
          (sockets-told c past e (restart_posts i m) (kept_sockets c past) _ legal refl (λ j. refl) refl refl (λ o. refl) (λ o. refl) (λ o. refl) refl)
          refl refl;
    }
restarted_follows c past i m (reply.Refused refusal.NoInterface) new legal few restarts =
    let beyond : c.ifaces ≤ i = omega (arith, restarts.0, count-kept c past) in
    follows_refused c past (Restart i m) refusal.NoInterface new tt restarts.1 (sym (cond-true (nat_le c.ifaces i) _ _ (le-leb c.ifaces i beyond)))
restarted_follows c past i m (reply.Refused refusal.NotBusOff) new legal few restarts =
    let below : i < c.ifaces = omega (arith, restarts.0, count-kept c past) in
    let few_i : i < 16 = omega arith in
    let live : is_silent (state_at c past i) ≡ false = sym (is_silent_at-kept c past i few_i) ∙ restarts.1 in
    follows_refused c past (Restart i m) refusal.NotBusOff new tt restarts.2 (sym (cond-false (nat_le c.ifaces i) _ _ (lt-leb c.ifaces i below) ∙ cond-false (is_silent (state_at c past i)) _ _ live))
restarted_follows c past i m _ new legal few restarts = absurd restarts
