use Rattle.std.proofs.Common.{Ok, subst}
use Rattle.can_rules.specs.Plans.{SpellsRule}
use Rattle.can_rules.proofs.Planning.{injected}
use Rattle.can_rules.proofs.plan.Plan.inject.Goals as goal

pub returns : goal.returns
returns c =
    let names = c.args.names.now in
    let text = c.args.text.now in
    let spelled : SpellsRule names text (Ok c.in_ok-rule.rule) = subst (λ r. SpellsRule names text r) c.in_ok-rule.was c.spelled_rule.ensures in
    injected names text _ _ c.in_ok-rule.rule c.give.result spelled c.give.ensures
