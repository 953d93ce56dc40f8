use Rattle.std.proofs.Common.{◌≡◌, ◌++◌, take}
use Rattle.std.specs.List.{flat_map}
use Rattle.can_record_text.proofs.Written.{filter_part}
use Rattle.can_record_text.proofs.filter_lines.put_filters.Given as goal

abbrev pub invariant-loop-filter : goal.invariant-loop-filter
invariant-loop-filter l = l.out.items ≡ l.initial.out.items ++ flat_map filter_part (take l.filter-index l.filters)
