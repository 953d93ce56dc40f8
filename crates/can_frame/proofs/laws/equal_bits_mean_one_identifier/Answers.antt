use Rattle.can_frame.proofs.Winning.{one_identifier}
use Rattle.can_frame.proofs.laws.equal_bits_mean_one_identifier.Goals as goal

pub returns : goal.returns
returns c = one_identifier
