use Rattle.std.proofs.Common.{◌≡◌, drop, ap, sym, ◌∙◌}
use Rattle.can_rules.specs.RunFaults.{RunSeen, after_next}
use Rattle.can_rules.proofs.Changing.{next-made}
use Rattle.can_rules.proofs.run_faults.RunFaults.make_next.Goals as goal

pub returns-clause-after : goal.returns-clause-after
returns-clause-after c =
    let me = c.self.inside in
    let run : RunSeen = record { names = me.names; plan = me.plan; later = drop me.made me.changes.items; tried = me.tried } in
    next-made c.args.attempt run me.changes.items c.deref.result.now me.made c.in-Some.next c.make.new.plan c.deref.ensures.value (sym c.due.ensures ∙ c.in-Some.is) c.in_ok-made.ensures.after
    ∙ ap (λ (r : RunSeen). after_next c.args.attempt r r.later) c.self.view_is
