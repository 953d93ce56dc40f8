use Rattle.can_proto.proofs.Pieces.{message-between}
use Rattle.can_proto.proofs.laws.bytes_between_marks_are_a_message.Goals as goal

pub returns : goal.returns
returns c = λ inside rest clear short. message-between inside rest clear short
