use Rattle.can_session.proofs.Ordered.{cut-begun, cut-outside, in-order}
use Rattle.can_session.proofs.laws.nothing_is_outside_messages_and_blanks.Goals as goal

pub returns-clause-order : goal.returns-clause-order
returns-clause-order c = in-order

pub returns-clause-outside : goal.returns-clause-outside
returns-clause-outside c = cut-outside

pub returns-clause-begun : goal.returns-clause-begun
returns-clause-begun c = cut-begun
