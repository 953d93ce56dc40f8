use Rattle.can_filter.proofs.Joins.{everything_passes}
use Rattle.can_filter.proofs.laws.one_open_filter_passes_every_word.Goals as goal

pub returns : goal.returns
returns c = everything_passes
