use Rattle.std.proofs.Common.{ℕ, Option, ap, sym, ◌∙◌}
use Rattle.can_frame.specs.Frames.{CanFrame}
use Rattle.can_rules.specs.declared.rule.Decision.{Decision}
use Rattle.can_rules.specs.Plans.{given, head_in}
use Rattle.can_rules.proofs.Deciding.{ruled-decided}
use Rattle.can_session.specs.BusSteps.{NamedBus, next_number_on, verdict_on}
use Rattle.can_session.proofs.bus_port.BusPort.next_decision.Goals as goal

pub returns-in-None-clause-verdict : goal.returns-in-None-clause-verdict
returns-in-None-clause-verdict g c =
    let stood = c.self.inside in
    let old : NamedBus = record { names = stood.names; journal = stood.bus; plan = stood.plan; schedule = stood.schedule } in
    let head = c.next_head.result in
    ap (λ (d : Decision). d.verdict) c.decision_of_rules.ensures.decision
    ∙ ruled-decided stood.plan.rules (head_in head)
    ∙ sym (c.in-None.ensures.«open».1 head).0
    ∙ ap (λ (n : ℕ). given c.args.source stood.plan n head) c.next_attempt-number.ensures
    ∙ ap (λ (h : Option (ℕ × CanFrame)). given c.args.source stood.plan (next_number_on old) h) c.next_head.ensures
    ∙ ap (λ (bus : NamedBus). verdict_on bus c.args.source) c.self.view_is
