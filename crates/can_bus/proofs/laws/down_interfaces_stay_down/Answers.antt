use Rattle.can_bus.proofs.CountingFacts.{down-restarted-not}
use Rattle.can_bus.proofs.SilentFacts.{down-counts, down-until-restart}
use Rattle.can_bus.proofs.laws.down_interfaces_stay_down.Goals as goal

pub returns-clause-goes : goal.returns-clause-goes
returns-clause-goes c past e i down = down-counts c.args.config past e i down

pub returns-clause-stays : goal.returns-clause-stays
returns-clause-stays c past e i down other = down-until-restart c.args.config past e i down other

pub returns-clause-waits : goal.returns-clause-waits
returns-clause-waits c past legal i down = down-restarted-not c.args.config past legal i down
