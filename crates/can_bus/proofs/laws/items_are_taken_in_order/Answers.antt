use Rattle.can_bus.proofs.QueueFacts.{taken-in-order}
use Rattle.can_bus.proofs.laws.items_are_taken_in_order.Goals as goal

pub returns : goal.returns
returns c past legal s = taken-in-order c.args.config past legal s
