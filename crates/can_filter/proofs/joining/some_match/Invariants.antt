use Rattle.std.proofs.Common.{◌≡◌, length}
use Rattle.std.specs.List.{list_any}
use Rattle.can_filter.specs.Filters.{matches}
use Rattle.can_filter.proofs.joining.some_match.Given as goal

-- the blocks so far do not decide the answer
abbrev pub invariant-loop-block : goal.invariant-loop-block
invariant-loop-block l = list_any (λ f. matches f l.word) l.fn.filters ≡ list_any (λ f. matches f l.word) l.rest

abbrev pub decreases-loop-block : goal.decreases-loop-block
decreases-loop-block l = length l.rest
