use Rattle.std.proofs.Common.{◌≡◌, ℕ, ◌<◌, ◌≤◌, true}
use Rattle.can_frame.specs.Sets.{is_in}
use Rattle.can_session.proofs.attempt_lines.run_end.Given as goal

abbrev pub invariant-loop-number : goal.invariant-loop-number
invariant-loop-number l = (i : ℕ) → l.from ≤ i → i < l.number → is_in i l.set ≡ true
