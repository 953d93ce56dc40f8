use Rattle.std.proofs.Common.{◌≡◌, length}
use Rattle.can_session.specs.IgnoredInput.{begun_after}
use Rattle.can_session.proofs.ignored_input.is_begun_after.Given as goal

abbrev pub invariant-loop-rest : goal.invariant-loop-rest
invariant-loop-rest l = begun_after l.was_begun l.rest ≡ begun_after l.was_begun l.bytes

abbrev pub decreases-loop-rest : goal.decreases-loop-rest
decreases-loop-rest l = length l.rest
