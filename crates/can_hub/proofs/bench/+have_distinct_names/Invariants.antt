use Rattle.std.proofs.Common.{length}
use Rattle.can_hub.proofs.bench.+have_distinct_names.Given as goal

abbrev pub decreases-have_distinct_names : goal.decreases-have_distinct_names
decreases-have_distinct_names g l = length l.benches.now
