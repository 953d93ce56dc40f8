use Rattle.can_frame.proofs.Winning.{no_rest}
use Rattle.can_frame.proofs.laws.no_bits_begin_others.Goals as goal

pub returns : goal.returns
returns c = no_rest
