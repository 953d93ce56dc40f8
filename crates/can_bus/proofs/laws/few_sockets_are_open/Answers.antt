use Rattle.can_bus.proofs.LifeFacts.{few-open}
use Rattle.can_bus.proofs.laws.few_sockets_are_open.Goals as goal

pub returns : goal.returns
returns c past legal = few-open c.args.config past legal
