use Rattle.can_rules.proofs.Running.{named}
use Rattle.can_rules.proofs.laws.the_rule_that_is_named_gave_the_verdict.Goals as goal

pub returns : goal.returns
returns c = named
