use Rattle.can_rules.proofs.Reading.{given-again, ended-again}
use Rattle.can_rules.proofs.laws.lines_are_read_as_what_they_are_of.Goals as goal

pub returns-clause-given : goal.returns-clause-given
returns-clause-given c = given-again

pub returns-clause-ended : goal.returns-clause-ended
returns-clause-ended c = ended-again
