use Rattle.std.proofs.Common.{◌≡◌, ◌≤◌, IfSome}
use Rattle.can_bus.specs.AutoRestart.{attempts_off}
use Rattle.can_replay.specs.Histories.{before}
use Rattle.can_audit.proofs.restarts.attempts_off.Given as goal

abbrev pub invariant-loop-entry : goal.invariant-loop-entry
invariant-loop-entry l = record {
  count : l.off ≡ attempts_off (before l.past l.entry-index) l.iface;
  few : IfSome l.off (λ k. k ≤ l.entry-index);
}
