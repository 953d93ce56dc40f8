use Rattle.std.proofs.Common.{◌++◌, List, subst, sym, ap, ◌∙◌}
use Rattle.can_event.specs.declared.entry.Entry.{Entry}
use Rattle.can_event.specs.declared.received.Received.{Received}
use Rattle.can_bus.specs.Queues.{candidates_for}
use Rattle.can_replay.specs.Histories.{IsHistory}
use Rattle.can_replay.proofs.EntriesBefore.{before_all}
use Rattle.can_audit.proofs.Queueing.{reads, offered_more}
use Rattle.can_audit.proofs.queues.candidates_for.Goals as goal

pub loop-k-preserved : goal.loop-k-preserved
loop-k-preserved c = λ h.
    let r = reads c.args.config c.args.past.now c.loop-k.k c.index-past-k.result c.loop-k-test.true c.index-past-k.is h in
    offered_more c.args.config c.args.past.now c.loop-k.k c.args.id.0 c.index-past-k.result c.loop-k.offered.items c.in_ok-more.more.items c.extend_from_slice.new.self.items r (c.loop-k.invariant r.past) (c.in_ok-more.ensures r.now)
    (c.in_ok-extend_from_slice.ensures.items ∙ ap (λ (rs : List Received). c.loop-k.offered.items ++ rs) c.deref.ensures.value)

pub returns : goal.returns
returns c = λ h.
    let all = before_all c.args.past.now c.loop-k.k c.loop-k-test.false in
    c.loop-k.invariant (subst (IsHistory c.args.config) (sym all) h) ∙ ap (λ (past : List Entry). candidates_for c.args.config past c.args.id.0) all
