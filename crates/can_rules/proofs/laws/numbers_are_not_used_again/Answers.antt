use Rattle.can_rules.proofs.Numbers.{numbered-given, numbered-asked, numbered-ended}
use Rattle.can_rules.proofs.laws.numbers_are_not_used_again.Goals as goal

pub returns-clause-given : goal.returns-clause-given
returns-clause-given c = numbered-given

pub returns-clause-asked : goal.returns-clause-asked
returns-clause-asked c = numbered-asked

pub returns-clause-ended : goal.returns-clause-ended
returns-clause-ended c = λ plan h. numbered-ended 0 plan.taken plan.rules h
