use Rattle.can_rules.proofs.UsedUp.{chosen-unused, after_chosen-unused, verdicts-unused}
use Rattle.can_rules.proofs.laws.a_used_up_rule_changes_nothing.Goals as goal

pub returns-clause-verdict : goal.returns-clause-verdict
returns-clause-verdict c = chosen-unused

pub returns-clause-counts : goal.returns-clause-counts
returns-clause-counts c = after_chosen-unused

pub returns-clause-run : goal.returns-clause-run
returns-clause-run c = verdicts-unused
