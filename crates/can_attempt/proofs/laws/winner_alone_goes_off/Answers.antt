use Rattle.can_attempt.proofs.Standing.{winner-alone-off}
use Rattle.can_attempt.proofs.laws.winner_alone_goes_off.Goals as goal

pub returns : goal.returns
returns c t i other = winner-alone-off t i other
