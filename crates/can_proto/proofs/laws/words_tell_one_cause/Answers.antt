use Rattle.can_proto.proofs.Telling.{one-cause}
use Rattle.can_proto.proofs.laws.words_tell_one_cause.Goals as goal

pub returns : goal.returns
returns c = λ one other h. one-cause one other h
