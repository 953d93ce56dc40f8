use Rattle.std.proofs.Common.{◌≡◌, ℕ, ◌<◌, None, length, get_or, reverse}
use Rattle.can_bus.specs.State.{key_in}
use Rattle.can_bus.specs.Transmit.{head_of}
use Rattle.can_audit.proofs.attempts.first_of.Given as goal

abbrev pub invariant-loop-place : goal.invariant-loop-place
invariant-loop-place g l = record {
  long : length (g.A.Arbiter.keys_of l.arbiter) ≡ 16;
  filled : (k : ℕ) → k < l.place → get_or (g.A.Arbiter.keys_of l.arbiter) k None ≡ key_in (head_of (reverse l.past) k);
}
