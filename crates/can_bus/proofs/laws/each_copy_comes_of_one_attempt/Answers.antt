use Rattle.can_bus.proofs.CopyFacts.{received-copies}
use Rattle.can_bus.proofs.laws.each_copy_comes_of_one_attempt.Goals as goal

pub returns : goal.returns
returns c past legal i s = received-copies c.args.config past legal i s
