use Rattle.can_attempt.proofs.Judged.{judged_same}
use Rattle.can_attempt.proofs.laws.sixteen_places_decide.Goals as goal

pub returns : goal.returns
returns c = judged_same
