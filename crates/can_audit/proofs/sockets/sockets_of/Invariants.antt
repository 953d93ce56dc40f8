use Rattle.std.proofs.Common.{◌≡◌}
use Rattle.can_bus.specs.Sockets.{places, open_sockets}
use Rattle.can_replay.specs.Histories.{before}
use Rattle.can_audit.proofs.sockets.sockets_of.Given as goal

abbrev pub invariant-loop-entry : goal.invariant-loop-entry
invariant-loop-entry l = record {
  places : l.sockets.places.items ≡ places (before l.past l.entry-index);
  numbers : l.sockets.numbers.items ≡ open_sockets (before l.past l.entry-index);
}
