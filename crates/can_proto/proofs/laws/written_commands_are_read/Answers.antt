use Rattle.can_proto.proofs.ReadingBack.{read-back, read-spaced}
use Rattle.can_proto.proofs.laws.written_commands_are_read.Goals as goal

pub returns-clause-alone : goal.returns-clause-alone
returns-clause-alone c = read-back

pub returns-clause-spaced : goal.returns-clause-spaced
returns-clause-spaced c = read-spaced
