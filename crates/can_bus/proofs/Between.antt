use Rattle.std.proofs.Common.{◌≡◌, ℕ, ◌+◌, ◌^◌, ◌<◌, ◌≤◌, false, List, [], ◌∷◌, length, map, Option, Some, None, All, if◌then◌else◌, refl, sym, ap, ◌∙◌, subst, arith}
use Rattle.std.proofs.lemmas.Bool.{and_right, cond-false}
use Rattle.std.proofs.lemmas.List.Elements.{All-nil, All-cons, All-head, All-tail}
use Rattle.std.proofs.lemmas.List.FromFn.{fill_by_all}
use Rattle.can_frame.specs.Sets.{is_in, no_ifaces}
use Rattle.can_frame.specs.declared.iface.IfaceSet.{IfaceSet}
use Rattle.can_confine.specs.Confinement.{at_start}
use Rattle.can_fault.specs.declared.verdict.Verdict.{Verdict}
use Rattle.can_attempt.specs.Attempts.{counts_at, attempt_between}
use Rattle.can_attempt.specs.declared.nodes.Nodes.{Nodes}
use Rattle.can_attempt.proofs.Standing.{is_in-of}
use Rattle.can_event.specs.declared.attempt.Attempt.{Attempt}
use Rattle.can_event.specs.declared.bus_config.BusConfig.{BusConfig}
use Rattle.can_event.specs.declared.attempt.Tried.{Tried}
use Rattle.can_bus.specs.Changes.{AreReady, Tries, Attempts, came_to, ticked, due_in, begun_anew, after_auto_restart}
use Rattle.can_bus.specs.Posts.{Post, attempt_posts, auto_restart_posts}
use Rattle.can_bus.specs.State.{SocketState, Parts, filled, reached}
use Rattle.can_bus.proofs.Filling.{filled-dropped, filled-nil, wanted}
use Rattle.can_bus.proofs.Lawful.{attempt_posts-le}

-- The state between the frame that an attempt tries and the restarts at its end.

-- after the posts of an attempt, the drop counts can still increase by one
less-dropped : (posts : ℕ → List Post) (vs : List SocketState) → ((i : ℕ) → length (posts i) ≤ 3) → All (λ (v : SocketState). v.dropped + 4 < 2 ^ 64) vs → All (λ (v : SocketState). v.dropped + 1 < 2 ^ 64) (map (reached posts) vs)
less-dropped posts [] few all = All-nil (λ (v : SocketState). v.dropped + 1 < 2 ^ 64)
less-dropped posts (v ∷ vs) few all =
    let here = All-head (λ (u : SocketState). u.dropped + 4 < 2 ^ 64) v vs all in
    All-cons (λ (u : SocketState). u.dropped + 1 < 2 ^ 64) (reached posts v) (map (reached posts) vs)
    (omega (arith, here, filled-dropped v (reached posts v) (posts v.iface) refl, few v.iface))
    (less-dropped posts vs few (All-tail (λ (u : SocketState). u.dropped + 4 < 2 ^ 64) v vs all))

fewer : (vs : List SocketState) → All (λ (v : SocketState). v.dropped + 4 < 2 ^ 64) vs → All (λ (v : SocketState). v.dropped + 1 < 2 ^ 64) vs
fewer [] all = All-nil (λ (v : SocketState). v.dropped + 1 < 2 ^ 64)
fewer (v ∷ vs) all =
    let here = All-head (λ (u : SocketState). u.dropped + 4 < 2 ^ 64) v vs all in
    All-cons (λ (u : SocketState). u.dropped + 1 < 2 ^ 64) v vs (omega (arith, here)) (fewer vs (All-tail (λ (u : SocketState). u.dropped + 4 < 2 ^ 64) v vs all))

pub fewer_three : (vs : List SocketState) → All (λ (v : SocketState). v.dropped + 4 < 2 ^ 64) vs → All (λ (v : SocketState). v.dropped + 3 < 2 ^ 64) vs
fewer_three [] all = All-nil (λ (v : SocketState). v.dropped + 3 < 2 ^ 64)
fewer_three (v ∷ vs) all =
    let here = All-head (λ (u : SocketState). u.dropped + 4 < 2 ^ 64) v vs all in
    All-cons (λ (u : SocketState). u.dropped + 3 < 2 ^ 64) v vs (omega (arith, here)) (fewer_three vs (All-tail (λ (u : SocketState). u.dropped + 4 < 2 ^ 64) v vs all))

pub small_between : (old between : Parts) (c : BusConfig) (m : ℕ) (v : Verdict) (rs : IfaceSet) (o : Option Tried) → Tries old c m v rs o between → All (λ (u : SocketState). u.dropped + 4 < 2 ^ 64) old.sockets → All (λ (u : SocketState). u.dropped + 1 < 2 ^ 64) between.sockets
small_between old between c m v rs None tries all = subst (λ (p : Parts). All (λ (u : SocketState). u.dropped + 1 < 2 ^ 64) p.sockets) (sym tries.1) (fewer old.sockets all)
small_between old between c m v rs (Some t) k all =
    let tr = attempt_between old.nodes k.place v c.ack in
    subst (λ (p : Parts). All (λ (u : SocketState). u.dropped + 1 < 2 ^ 64) p.sockets) (sym k.after)
    (less-dropped (attempt_posts c.reporting tr t (Some k.pending)) old.sockets (attempt_posts-le c.reporting tr t (Some k.pending)) all)

-- there are still 16 places
pub sixteen_between : (old between : Parts) (c : BusConfig) (m : ℕ) (v : Verdict) (rs : IfaceSet) (o : Option Tried) → Tries old c m v rs o between → length old.nodes.counters ≡ 16 → length between.nodes.counters ≡ 16
sixteen_between old between c m v rs None tries long = ap (λ (p : Parts). length p.nodes.counters) tries.1 ∙ long
sixteen_between old between c m v rs (Some t) k long = ap (λ (p : Parts). length p.nodes.counters) k.after

-- only the numbers of attempts until restarts changed
pub ready_left : (p : Parts) (left : List ℕ) → AreReady p → AreReady (record p { left = left })
ready_left p left ready w k at = let r = ready w k at in record { there = r.there; counted = r.counted; live = r.live; has_head = r.has_head }

-- the attempt, as the result of its three steps
pub came : (p old : Parts) (c : BusConfig) (m : ℕ) (v : Verdict) (left : List ℕ) (rs : IfaceSet) (o : Option Tried) (a : Attempt) (between new : Parts)
    → p ≡ old → left ≡ ticked p.left → rs ≡ due_in p.left → Tries (record p { left = left }) c m v rs o between → a ≡ came_to rs o
    → new ≡ after_auto_restart between rs m → Attempts old c m v a new
came p old c m v left rs o a between new same rest due tries came_is after =
    subst (λ (q : Parts). Attempts q c m v a new) same
    (record {
      tried = o;
      between = between;
      tries = subst (λ (s : IfaceSet). Tries (record p { left = ticked p.left }) c m v s o between) due (subst (λ (ns : List ℕ). Tries (record p { left = ns }) c m v rs o between) rest tries);
      came = came_is ∙ ap (λ (s : IfaceSet). came_to s o) due;
      after = after ∙ ap (λ (s : IfaceSet). after_auto_restart between s m) due;
    })

-- ---- no interface is restarted

in-none : (i : ℕ) → is_in i no_ifaces ≡ false
in-none i = is_in-of [] i ∙ and_right _ false refl

none-anew : (nodes : Nodes) → length nodes.counters ≡ 16 → begun_anew no_ifaces nodes ≡ nodes
none-anew nodes long =
    sym (ap (λ ks. record nodes { counters = ks })
    (fill_by_all (λ (i : ℕ). if is_in i no_ifaces then at_start else counts_at nodes i) nodes.counters 16 at_start long
    (λ k lt. sym (cond-false (is_in k no_ifaces) at_start (counts_at nodes k) (in-none k)))))

none-told : (m : ℕ) (vs : List SocketState) → map (reached (auto_restart_posts no_ifaces m)) vs ≡ vs
none-told m [] = refl
none-told m (v ∷ vs) =
    let posts : auto_restart_posts no_ifaces m v.iface ≡ [] = cond-false (is_in v.iface no_ifaces) _ [] (in-none v.iface) in
    let here : reached (auto_restart_posts no_ifaces m) v ≡ v = ap (λ (ps : List Post). filled v (wanted v ps)) posts ∙ filled-nil v in
    let rest = none-told m vs in
    cc

pub none-restarted : (old : Parts) (rs : IfaceSet) (m : ℕ) → rs.0 ≡ 0 → length old.nodes.counters ≡ 16 → old ≡ after_auto_restart old rs m
none-restarted old rs m empty long =
    let is : rs ≡ no_ifaces = ap (λ (n : ℕ). made n) empty in
    ap (λ (ns : Nodes). record old { nodes = ns }) (sym (none-anew old.nodes long))
    ∙ ap (λ (vs : List SocketState). record old { nodes = begun_anew no_ifaces old.nodes; sockets = vs }) (sym (none-told m old.sockets))
    ∙ ap (λ (s : IfaceSet). after_auto_restart old s m) (sym is)
  where
    made : ℕ → IfaceSet
    made n = record { 0 = n }
