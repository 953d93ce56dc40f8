use Rattle.std.proofs.Common.{◌≡◌}
use Rattle.can_bus.specs.Queues.{taken_from}
use Rattle.can_replay.specs.Histories.{before}
use Rattle.can_audit.proofs.queues.taken_from.Given as goal

abbrev pub invariant-loop-entry : goal.invariant-loop-entry
invariant-loop-entry l = l.taken.items ≡ taken_from (before l.past l.entry-index) l.id.0
