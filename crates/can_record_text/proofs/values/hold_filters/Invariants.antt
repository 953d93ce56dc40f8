use Rattle.std.proofs.Common.{take}
use Rattle.std.specs.Prelude.{All}
use Rattle.can_record_text.specs.Values.{HoldsFilter}
use Rattle.can_record_text.proofs.values.hold_filters.Given as goal

abbrev pub invariant-loop-filter : goal.invariant-loop-filter
invariant-loop-filter l = All HoldsFilter (take l.filter-index l.filters)
