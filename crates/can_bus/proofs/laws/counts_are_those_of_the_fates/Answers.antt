use Rattle.can_bus.proofs.FateFacts.{frames-waiting, frames-done, frames-lost}
use Rattle.can_bus.proofs.laws.counts_are_those_of_the_fates.Goals as goal

pub returns-clause-waiting : goal.returns-clause-waiting
returns-clause-waiting c past legal i = frames-waiting c.args.config past legal i

pub returns-clause-done : goal.returns-clause-done
returns-clause-done c past legal i = frames-done c.args.config past legal i

pub returns-clause-lost : goal.returns-clause-lost
returns-clause-lost c past legal i = frames-lost c.args.config past legal i
