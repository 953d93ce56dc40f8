use Rattle.std.proofs.Common.{◌≡◌}
use Rattle.can_bus.specs.Transmit.{sent_by}
use Rattle.can_replay.specs.Histories.{before}
use Rattle.can_audit.proofs.transmit.sent_by.Given as goal

abbrev pub invariant-loop-k : goal.invariant-loop-k
invariant-loop-k l = l.sent.items ≡ sent_by (before l.past l.k) l.iface
