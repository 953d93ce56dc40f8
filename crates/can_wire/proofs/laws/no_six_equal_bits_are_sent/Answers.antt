use Rattle.can_wire.proofs.Stuffed.{no_six_all, no_six_inside}
use Rattle.can_wire.proofs.laws.no_six_equal_bits_are_sent.Goals as goal

pub returns-clause-all : goal.returns-clause-all
returns-clause-all c = no_six_all

pub returns-clause-inside : goal.returns-clause-inside
returns-clause-inside c = no_six_inside
