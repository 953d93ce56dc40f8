use Rattle.std.proofs.Common.{◌≡◌, take}
use Rattle.std.specs.List.{list_all}
use Rattle.can_filter.specs.Filters.{matches}
use Rattle.can_filter.proofs.joining.all_of_block.Given as goal

abbrev pub invariant-loop-filter : goal.invariant-loop-filter
invariant-loop-filter l = l.all ≡ list_all (λ f. matches f l.word) (take l.filter-index l.block)
