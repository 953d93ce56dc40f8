use Rattle.std.proofs.Common.{ap, subst, arith}
use Rattle.can_event.specs.Spelled.{IsSpelled}
use Rattle.can_event.specs.declared.bus_config.BusConfig.{BusConfig}
use Rattle.can_bus.specs.Lean.{Lean}
use Rattle.can_bus.proofs.Answering.{answer_is_spelled}
use Rattle.can_bus.proofs.lean_bus.LeanBus.answer.Goals as goal

pub returns-then-enters-clause-spelled : goal.returns-then-enters-clause-spelled
returns-then-enters-clause-spelled g c = λ enters.
    let past = c.self.invariant.past in
    let kept = c.self.invariant.is_after.kept in
    let carries = c.answer-reply.ensures past kept (omega (arith, c.if-self.false, c.self.invariant.is_after.count)) in
    subst (λ (d : BusConfig). IsSpelled d (record { event = c.args.event.now; reply = c.answer-reply.result })) (ap (λ (b : Lean). b.config) c.self.view_is)
    (answer_is_spelled c.self.inside.config past c.args.event.now c.answer-reply.result carries.answer enters)
