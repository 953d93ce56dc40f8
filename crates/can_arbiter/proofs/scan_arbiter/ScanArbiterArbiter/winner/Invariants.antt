use Rattle.can_arbiter.proofs.Scanning.{IsFirstBelow}
use Rattle.can_arbiter.proofs.scan_arbiter.ScanArbiterArbiter.winner.Given as goal

abbrev pub invariant-loop-number : goal.invariant-loop-number
invariant-loop-number l = IsFirstBelow l.self.keys l.number l.first
