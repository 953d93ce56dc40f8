use Rattle.can_arbiter.proofs.Scanning.{unique}
use Rattle.can_arbiter.proofs.laws.winner_is_unique.Goals as goal

pub returns : goal.returns
returns c = unique
