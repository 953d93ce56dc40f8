use Rattle.std.proofs.Common.{◌≡◌, reverse}
use Rattle.can_bus.specs.Lean.{IsAfter}
use Rattle.can_replay.specs.Histories.{before}
use Rattle.can_replay.proofs.audits.audit.Given as goal

abbrev pub invariant-loop-i : goal.invariant-loop-i
invariant-loop-i l = IsAfter l.bus (before (reverse l.record.history) l.i) × (l.bus.config ≡ l.record.config)
