use Rattle.std.proofs.Common.{◌≡◌}
use Rattle.can_bus.specs.Sockets.{options_of}
use Rattle.can_replay.specs.Histories.{before}
use Rattle.can_audit.proofs.sockets.options_of.Given as goal

abbrev pub invariant-loop-entry : goal.invariant-loop-entry
invariant-loop-entry l = l.options ≡ options_of (before l.past l.entry-index) l.id.0
