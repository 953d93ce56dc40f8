use Rattle.can_bus.proofs.LifeFacts.{numbers-rise}
use Rattle.can_bus.proofs.laws.socket_numbers_are_never_used_again.Goals as goal

pub returns : goal.returns
returns c past legal = numbers-rise c.args.config past legal
