use Rattle.std.proofs.Common.{◌≡◌, List, ℕ, ◌++◌, codes, take, sym, ap, ◌∙◌}
use Rattle.std.proofs.lemmas.Result.{on_ok_weaker}
use Rattle.can_confine.specs.Confinement.{ErrorCounts}
use Rattle.can_event.specs.declared.reply.Closed.{Closed}
use Rattle.can_replay.specs.Words.{part_named}
use Rattle.can_replay.specs.inner.Seen.{Seen, told_counts, told_dropped, told_lost, told_parts, told_put}
use Rattle.can_replay.proofs.Lists.{four}
use Rattle.can_replay.proofs.before.Before.put_parts.Goals as goal

pub returns : goal.returns
unfolding told_parts
returns c =
    let seen = c.args.self.now in
    let kept = c.args.state.now in
    let t0 = c.args.out.now.items in
    let t1 = c.put_all_counts.new.out.items in
    let t2 = c.put_all_lost.new.out.items in
    let t3 = c.put_queued.new.out.items in
    let t4 = c.put_refused.new.out.items in
    let counters : c.self.inside.counters ≡ seen.counters = ap (λ (s : Seen). s.counters) c.self.view_is in
    let lost : c.deref.result.now ≡ seen.lost = c.deref.ensures.value ∙ ap (λ (s : Seen). s.lost) c.self.view_is in
    let sockets : c.deref-2.result.now ≡ seen.sockets = c.deref-2.ensures.value ∙ ap (λ (s : Seen). s.sockets) c.self.view_is in
    let again : c.deref-3.result.now ≡ seen.sockets = c.deref-3.ensures.value ∙ ap (λ (s : Seen). s.sockets) c.self.view_is in
    let last : c.deref-4.result.now ≡ seen.sockets = c.deref-4.ensures.value ∙ ap (λ (s : Seen). s.sockets) c.self.view_is in
    let ends = c.changed_sockets-ends in
    let queued : told_put (take ends.result.queued c.deref-3.result.now) kept.sockets ≡ told_put seen.sockets kept.sockets =
    ap (λ (ks : List Closed). told_put (take ends.result.queued ks) kept.sockets) (again ∙ sym sockets)
    ∙ ends.ensures.queued
    ∙ ap (λ (ks : List Closed). told_put ks kept.sockets) sockets in
    let refused : told_dropped (take ends.result.refused c.deref-4.result.now) kept.sockets ≡ told_dropped seen.sockets kept.sockets =
    ap (λ (ks : List Closed). told_dropped (take ends.result.refused ks) kept.sockets) (last ∙ sym sockets)
    ∙ ends.ensures.refused
    ∙ ap (λ (ks : List Closed). told_dropped ks kept.sockets) sockets in
    let first : t1 ≡ t0 ++ told_counts seen.counters kept.nodes.counters =
    c.in_ok-put_all_counts.ensures
    ∙ ap (λ (ks : List ErrorCounts). t0 ++ told_counts ks c.counters.result) counters
    ∙ ap (λ (ks : List ErrorCounts). t0 ++ told_counts seen.counters ks) c.counters.ensures in
    let second : t2 ≡ t1 ++ told_lost seen.lost kept.interfaces = c.in_ok-put_all_lost.ensures ∙ ap (λ (ns : List ℕ). t1 ++ told_lost ns kept.interfaces) lost in
    let third : t3 ≡ t2 ++ part_named (codes "put") (told_put seen.sockets kept.sockets) = c.in_ok-put_queued.ensures ∙ ap (λ (ws : List (List ℕ)). t2 ++ part_named (codes "put") ws) queued in
    on_ok_weaker c.put_refused.result
    (λ fourth. four t0 t1 t2 t3 t4 (told_counts seen.counters kept.nodes.counters) (told_lost seen.lost kept.interfaces) (part_named (codes "put") (told_put seen.sockets kept.sockets)) (part_named (codes "dropped") (told_dropped seen.sockets kept.sockets)) first second third (fourth ∙ ap (λ (ws : List (List ℕ)). t3 ++ part_named (codes "dropped") ws) refused))
    c.put_refused.ensures
