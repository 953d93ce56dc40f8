use Rattle.std.proofs.Common.{◌≡◌, ◌++◌, ◌-◌}
use Rattle.can_session.specs.AttemptLines.{set_text}
use Rattle.can_session.proofs.SetTexts.{rest_text, to_come}
use Rattle.can_session.proofs.attempt_lines.put_set.Given as goal

abbrev pub invariant-loop-number : goal.invariant-loop-number
invariant-loop-number l = l.said.items ++ rest_text l.is_first (to_come l.names l.set l.number) ≡ l.fn.said.items ++ set_text l.names l.set

abbrev pub decreases-loop-number : goal.decreases-loop-number
decreases-loop-number l = l.count - l.number
