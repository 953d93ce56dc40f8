use Rattle.can_rules.proofs.Running.{asked-none, rule-none}
use Rattle.can_rules.proofs.laws.a_run_without_changes_asks_as_its_plan.Goals as goal

pub returns-clause-after : goal.returns-clause-after
returns-clause-after c = asked-none

pub returns-clause-rule : goal.returns-clause-rule
returns-clause-rule c = rule-none
