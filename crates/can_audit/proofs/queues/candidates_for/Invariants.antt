use Rattle.std.proofs.Common.{◌≡◌}
use Rattle.can_bus.specs.Queues.{candidates_for}
use Rattle.can_replay.specs.Histories.{before, IsHistory}
use Rattle.can_audit.proofs.queues.candidates_for.Given as goal

abbrev pub invariant-loop-k : goal.invariant-loop-k
invariant-loop-k l = IsHistory l.config (before l.past l.k) → l.offered.items ≡ candidates_for l.config (before l.past l.k) l.id.0
