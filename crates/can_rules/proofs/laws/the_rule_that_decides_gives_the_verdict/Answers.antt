use Rattle.can_rules.proofs.Deciding.{chosen-deciding}
use Rattle.can_rules.proofs.laws.the_rule_that_decides_gives_the_verdict.Goals as goal

pub returns : goal.returns
returns c = chosen-deciding
