use Rattle.can_bus.proofs.TurnFacts.{numbers-never-fall, copying-over, copying-turns}
use Rattle.can_bus.proofs.laws.copies_come_in_turn.Goals as goal

pub returns-clause-numbers : goal.returns-clause-numbers
returns-clause-numbers c past legal i s = numbers-never-fall c.args.config past legal i s

pub returns-clause-classes : goal.returns-clause-classes
returns-clause-classes c past legal i s = copying-over c.args.config past legal i s

pub returns-clause-turns : goal.returns-clause-turns
returns-clause-turns c past legal i s = copying-turns c.args.config past legal i s
