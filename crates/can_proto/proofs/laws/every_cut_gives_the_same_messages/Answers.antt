use Rattle.std.proofs.Common.{[]}
use Rattle.can_proto.proofs.Pieces.{given_from-all}
use Rattle.can_proto.proofs.laws.every_cut_gives_the_same_messages.Goals as goal

pub returns : goal.returns
returns c = λ pieces. given_from-all [] pieces tt
