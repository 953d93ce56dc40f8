use Rattle.std.proofs.Common.{◌≡◌, ◌≤◌}
use Rattle.can_bus.specs.Transmit.{gone_count}
use Rattle.can_replay.specs.Histories.{before}
use Rattle.can_audit.proofs.transmit.gone_count.Given as goal

abbrev pub invariant-loop-k : goal.invariant-loop-k
invariant-loop-k l = record {
  gone : l.gone ≡ gone_count (before l.past l.k) l.iface;
  few : l.gone ≤ l.k;
}
