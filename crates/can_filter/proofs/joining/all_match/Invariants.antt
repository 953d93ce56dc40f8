use Rattle.std.proofs.Common.{◌≡◌, length}
use Rattle.std.specs.List.{list_all}
use Rattle.can_filter.specs.Filters.{matches}
use Rattle.can_filter.proofs.joining.all_match.Given as goal

-- the blocks so far do not decide the answer
abbrev pub invariant-loop-block : goal.invariant-loop-block
invariant-loop-block l = list_all (λ f. matches f l.word) l.fn.filters ≡ list_all (λ f. matches f l.word) l.rest

abbrev pub decreases-loop-block : goal.decreases-loop-block
decreases-loop-block l = length l.rest
