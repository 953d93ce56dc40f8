use Rattle.std.proofs.Common.{take}
use Rattle.can_filter.specs.Gates.{IsGate}
use Rattle.can_filter.proofs.gates.gate_of.Given as goal

abbrev pub invariant-loop-filter : goal.invariant-loop-filter
invariant-loop-filter l = IsGate l.gate (take l.filter-index l.filters)
