use Rattle.can_fault.specs.Sources.{no_verdicts}
use Rattle.can_fault.specs.Scripts.{sayings}
use Rattle.can_fault.proofs.ScriptLaws.{one_line}
use Rattle.can_fault.proofs.laws.no_attempt_has_two_verdicts.Goals as goal

pub returns : goal.returns
returns c = λ names text verdicts first second attempt one other spelled at_first at_second.
    one_line no_verdicts 1 (sayings names text) verdicts first second attempt one other spelled at_first at_second
