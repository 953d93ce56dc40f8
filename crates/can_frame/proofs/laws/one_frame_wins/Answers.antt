use Rattle.can_frame.proofs.Winning.{some_wins, alone}
use Rattle.can_frame.proofs.laws.one_frame_wins.Goals as goal

pub returns-clause-some : goal.returns-clause-some
returns-clause-some c = some_wins

pub returns-clause-alone : goal.returns-clause-alone
returns-clause-alone c = alone
