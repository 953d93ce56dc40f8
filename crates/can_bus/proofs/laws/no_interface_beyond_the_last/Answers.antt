use Rattle.can_bus.proofs.OffFacts.{sent-beyond, counts-beyond}
use Rattle.can_bus.proofs.laws.no_interface_beyond_the_last.Goals as goal

pub returns-clause-sent : goal.returns-clause-sent
returns-clause-sent c past legal i above = sent-beyond c.args.config past legal i above

pub returns-clause-counts : goal.returns-clause-counts
returns-clause-counts c past legal i above = counts-beyond c.args.config past legal i above
