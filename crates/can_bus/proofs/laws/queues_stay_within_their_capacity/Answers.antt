use Rattle.std.proofs.Common.{arith}
use Rattle.can_bus.proofs.QueueFacts.{few-items-wait, few-frames-wait}
use Rattle.can_bus.proofs.laws.queues_stay_within_their_capacity.Goals as goal

pub returns-clause-receive : goal.returns-clause-receive
returns-clause-receive c past legal s = let few = few-items-wait c.args.config past s in omega (arith, few)

pub returns-clause-transmit : goal.returns-clause-transmit
returns-clause-transmit c past legal i = let few = few-frames-wait c.args.config past legal i in omega (arith, few)
