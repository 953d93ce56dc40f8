use Rattle.can_bus.proofs.LifeFacts.{nothing-before-open, nothing-after-close}
use Rattle.can_bus.proofs.laws.only_open_sockets_receive.Goals as goal

pub returns-clause-before : goal.returns-clause-before
returns-clause-before c past i n s legal = nothing-before-open c.args.config past i n s legal.1

pub returns-clause-after : goal.returns-clause-after
returns-clause-after c later past s k legal = nothing-after-close c.args.config later past s k legal
