use Rattle.can_bus.proofs.TurnFacts.{count-numbers}
use Rattle.can_bus.proofs.laws.each_number_is_queued_once_for_each_attempt.Goals as goal

pub returns : goal.returns
returns c past legal i s n = count-numbers c.args.config past legal i s n
