use Rattle.can_attempt.proofs.Standing.{is_in-set_of}
use Rattle.can_attempt.proofs.laws.sets_hold_their_interfaces.Goals as goal

pub returns : goal.returns
returns c is i within = is_in-set_of is i within
