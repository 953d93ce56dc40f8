use Rattle.std.proofs.Common.{ap, not}
use Rattle.std.specs.Prelude.{◌==◌}
use Rattle.can_filter.proofs.Inverses.{low_bits_count}
use Rattle.can_filter.proofs.laws.an_error_mask_counts_below_bit_29.Goals as goal

pub returns : goal.returns
returns c = λ class mask below. ap (λ n. not (n == 0)) (low_bits_count 29 class mask below)
