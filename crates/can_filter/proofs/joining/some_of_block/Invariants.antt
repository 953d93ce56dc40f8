use Rattle.std.proofs.Common.{◌≡◌, take}
use Rattle.std.specs.List.{list_any}
use Rattle.can_filter.specs.Filters.{matches}
use Rattle.can_filter.proofs.joining.some_of_block.Given as goal

abbrev pub invariant-loop-filter : goal.invariant-loop-filter
invariant-loop-filter l = l.some ≡ list_any (λ f. matches f l.word) (take l.filter-index l.block)
