use Rattle.can_frame.proofs.Winning.{standard_first}
use Rattle.can_frame.proofs.laws.standard_outranks_extended.Goals as goal

pub returns : goal.returns
returns c = standard_first
