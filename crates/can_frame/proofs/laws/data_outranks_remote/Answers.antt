use Rattle.can_frame.proofs.Winning.{data_first, fd_first}
use Rattle.can_frame.proofs.laws.data_outranks_remote.Goals as goal

pub returns-clause-data : goal.returns-clause-data
returns-clause-data c = data_first

pub returns-clause-fd : goal.returns-clause-fd
returns-clause-fd c = fd_first
