use Rattle.std.proofs.Common.{◌≡◌, ℕ, ◌<◌, ◌≤◌, length, get_or}
use Rattle.can_confine.specs.Confinement.{at_start}
use Rattle.can_attempt.specs.declared.ack_mode.AckMode.{AckMode}
use Rattle.can_attempt.specs.Attempts.{attempt_between, counts_at, counts_in}
use Rattle.can_attempt.proofs.judging.all_counters_after.Given as goal

abbrev pub invariant-loop-place : goal.invariant-loop-place
invariant-loop-place l =
    (length l.counters ≡ 16) × ((a : AckMode) (k : ℕ) → k < l.place → get_or l.counters k at_start ≡ counts_in l.class (attempt_between l.nodes l.winner l.verdict a) k) × ((k : ℕ) → l.place ≤ k → get_or l.counters k at_start ≡ counts_at l.nodes k)
