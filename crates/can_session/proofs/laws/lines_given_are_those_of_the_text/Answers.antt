use Rattle.can_session.proofs.LineLaws.{next, forward, end, stop, apart}
use Rattle.can_session.proofs.laws.lines_given_are_those_of_the_text.Goals as goal

pub returns-clause-next : goal.returns-clause-next
returns-clause-next c = next

pub returns-clause-end : goal.returns-clause-end
returns-clause-end c = end

pub returns-clause-stop : goal.returns-clause-stop
returns-clause-stop c = stop

pub returns-clause-forward : goal.returns-clause-forward
returns-clause-forward c = forward

pub returns-clause-apart : goal.returns-clause-apart
returns-clause-apart c = apart
