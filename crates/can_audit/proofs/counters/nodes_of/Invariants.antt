use Rattle.std.proofs.Common.{◌≡◌}
use Rattle.can_bus.specs.State.{kept_nodes}
use Rattle.can_replay.specs.Histories.{before, IsHistory}
use Rattle.can_audit.proofs.counters.nodes_of.Given as goal

abbrev pub invariant-loop-entry : goal.invariant-loop-entry
invariant-loop-entry l = IsHistory l.config (before l.past l.entry-index) → l.nodes ≡ kept_nodes l.config (before l.past l.entry-index)
