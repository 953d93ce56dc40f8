use Rattle.std.proofs.Common.{◌≡◌}
use Rattle.can_bus.specs.Sockets.{filters_of}
use Rattle.can_replay.specs.Histories.{before}
use Rattle.can_audit.proofs.sockets.filters_of.Given as goal

abbrev pub invariant-loop-entry : goal.invariant-loop-entry
invariant-loop-entry l = l.filters ≡ filters_of (before l.past l.entry-index) l.id.0
