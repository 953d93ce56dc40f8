use Rattle.can_filter.proofs.Joins.{all_match}
use Rattle.can_filter.proofs.laws.joined_filters_all_have_to_match.Goals as goal

pub returns : goal.returns
returns c = all_match
