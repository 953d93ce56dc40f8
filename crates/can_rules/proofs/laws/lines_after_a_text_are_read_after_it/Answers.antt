use Rattle.can_rules.proofs.TextLines.{given-after, ended-after}
use Rattle.can_rules.proofs.laws.lines_after_a_text_are_read_after_it.Goals as goal

pub returns-clause-given : goal.returns-clause-given
returns-clause-given c = given-after

pub returns-clause-ended : goal.returns-clause-ended
returns-clause-ended c = ended-after
