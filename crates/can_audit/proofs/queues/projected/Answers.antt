use Rattle.std.proofs.Common.{filter, ap, ◌∙◌}
use Rattle.std.proofs.lemmas.List.{take_all}
use Rattle.can_bus.specs.Copies.{is_from}
use Rattle.can_audit.proofs.Passing.{pushed, left_out}
use Rattle.can_audit.proofs.Queueing.{kept_more}
use Rattle.can_audit.proofs.queues.projected.Goals as goal
use Rattle.can_audit.proofs.queues.projected.Goals.{then-is_from+in_ok-push, else-is_from}

pub loop-received-preserved : goal.loop-received-preserved
loop-received-preserved c =
    let old = c.loop-received.of_iface.items in
    let x = c.received-item.result in
    kept_more (is_from c.args.iface) c.deref-received-items.result.now c.loop-received.received-index x c.is_from.result old c.if-is_from.of_iface.items c.loop-received-test.true c.received-item.is c.is_from.ensures c.loop-received.invariant
    (elim c.if-is_from.branch [
      | then-is_from+in_ok-push w ↦ pushed c.is_from.result old c.if-is_from.of_iface.items x w.if-is_from.true (ap (λ v. v.items) w.of_iface-is ∙ w.in_ok-push.ensures.items)
      | else-is_from w ↦ left_out c.is_from.result old c.if-is_from.of_iface.items x w.if-is_from.false (ap (λ v. v.items) w.of_iface-is)
    ])

pub returns : goal.returns
returns c = λ h.
    c.loop-received.invariant
    ∙ ap (filter (is_from c.args.iface)) (take_all c.loop-received.received-index c.deref-received-items.result.now c.loop-received-test.false ∙ c.deref-received-items.ensures.value ∙ c.in_ok-all.ensures h)
