use Rattle.std.proofs.Common.{IsTrue, refl, subst}
use Rattle.can_bus.proofs.Answering.{KeepsAnswer, answer_is_spelled, carries, entered, entered_is_legal, is_ready, not_filters}
use Rattle.can_bus.proofs.Keeping.{not_full}
use Rattle.can_bus.proofs.Narrow.{legal_fits}
use Rattle.can_bus.proofs.bus.Bus.answer.Given as given
use Rattle.can_bus.proofs.bus.Bus.answer.Goals as goal
use Rattle.can_bus.proofs.bus.Bus.answer.Goals.{After-push}

pub answer-reply-requires : goal.answer-reply-requires
answer-reply-requires g c = is_ready _ _ _ c.self.invariant (not_full _ _ _ c.is_full.ensures c.if-is_full.false) c.config.ensures.config

pub push-requires-clause-spelled : goal.push-requires-clause-spelled
push-requires-clause-spelled g c =
    let carried = carries c.self.invariant (not_full _ _ _ c.is_full.ensures c.if-is_full.false) c.config.ensures.config refl c.answer-reply.ensures in
    answer_is_spelled _ _ _ _ carried.answer (subst IsTrue c.enters.ensures c.if-not-enters.false)

pub push-requires-clause-fits : goal.push-requires-clause-fits
push-requires-clause-fits g c =
    let carried = carries c.self.invariant (not_full _ _ _ c.is_full.ensures c.if-is_full.false) c.config.ensures.config refl c.answer-reply.ensures in
    legal_fits c.self.inside.record c.self.inside.state c.args.event.now _ c.self.invariant (not_filters _ c.in_default.not-SetFilters)
    (entered_is_legal c.self.inside.record.config c.self.inside.record.history c.args.event.now _ carried.answer (subst IsTrue c.enters.ensures c.if-not-enters.false)).1

noted : (g : given.Over) (c : After-push g) → KeepsAnswer c.args.self.now c.args.event.now c.answer-reply.result c.push.new.self c.answer-reply.new.self
noted g c =
    let carried = carries c.self.invariant (not_full _ _ _ c.is_full.ensures c.if-is_full.false) c.config.ensures.config refl c.answer-reply.ensures in
    entered c.self.view_is c.self.invariant carried (subst IsTrue c.enters.ensures c.if-not-enters.false) c.push.ensures

pub invariant_of-self-2 : goal.invariant_of-self-2
invariant_of-self-2 g c = (noted g c).kept

pub returns : goal.returns
returns g c = (noted g c).answered
