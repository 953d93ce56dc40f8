use Rattle.can_filter.proofs.Joins.{repeated}
use Rattle.can_filter.proofs.laws.repeated_filters_change_nothing.Goals as goal

pub returns : goal.returns
returns c = repeated
