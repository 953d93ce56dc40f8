use Rattle.std.proofs.Common.{◌∙◌, ap}
use Rattle.can_rules.specs.Plans.{head_in}
use Rattle.can_rules.specs.declared.rule.Decision.{Decision}
use Rattle.can_rules.proofs.Deciding.{ruled-decided}
use Rattle.can_rules.proofs.plan.Plan.verdict_of_rules.Goals as goal

pub returns-clause-verdict : goal.returns-clause-verdict
returns-clause-verdict c =
    ap (λ (d : Decision). d.verdict) c.decision_of_rules.ensures.decision ∙ ruled-decided c.args.self.now.rules (head_in c.args.head)
