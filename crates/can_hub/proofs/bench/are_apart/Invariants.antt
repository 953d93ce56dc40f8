use Rattle.std.proofs.Common.{ℕ, [], ◌<◌}
use Rattle.std.specs.Prelude.{Contains, slice_index_or}
use Rattle.can_hub.proofs.bench.are_apart.Given as goal

abbrev pub invariant-loop-number : goal.invariant-loop-number
invariant-loop-number l = (k : ℕ) → k < l.number → ¬ Contains l.others (slice_index_or l.names k [])
