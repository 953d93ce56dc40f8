use Rattle.std.proofs.Common.{◌≡◌, ℕ, ◌<◌, length, get_or, if◌then◌else◌}
use Rattle.can_frame.specs.Sets.{is_in}
use Rattle.can_confine.specs.Confinement.{at_start}
use Rattle.can_attempt.specs.Attempts.{counts_at}
use Rattle.can_bus.proofs.attempts.begun_anew.Given as goal

abbrev pub invariant-loop-place : goal.invariant-loop-place
invariant-loop-place l = (length l.counters ≡ 16) × ((k : ℕ) → k < l.place → get_or l.counters k at_start ≡ (if is_in k l.restarted then at_start else counts_at l.nodes k))
