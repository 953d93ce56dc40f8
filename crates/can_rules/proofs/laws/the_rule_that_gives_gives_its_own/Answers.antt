use Rattle.can_rules.proofs.Counted.{chosen-gives_at}
use Rattle.can_rules.proofs.laws.the_rule_that_gives_gives_its_own.Goals as goal

pub returns : goal.returns
returns c = chosen-gives_at
