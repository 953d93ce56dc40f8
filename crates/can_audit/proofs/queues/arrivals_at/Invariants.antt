use Rattle.std.proofs.Common.{◌≡◌}
use Rattle.can_bus.specs.Queues.{queued_to, dropped_at}
use Rattle.can_replay.specs.Histories.{before, IsHistory}
use Rattle.can_audit.proofs.queues.arrivals_at.Given as goal

abbrev pub invariant-loop-k : goal.invariant-loop-k
invariant-loop-k l = record {
  queued : IsHistory l.config (before l.past l.k) → l.arrivals.queued.items ≡ queued_to l.config (before l.past l.k) l.id.0;
  dropped : IsHistory l.config (before l.past l.k) → l.arrivals.dropped.items ≡ dropped_at l.config (before l.past l.k) l.id.0;
}
