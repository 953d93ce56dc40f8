use Rattle.can_filter.proofs.Joins.{some_matches}
use Rattle.can_filter.proofs.laws.some_filter_has_to_match.Goals as goal

pub returns : goal.returns
returns c = some_matches
