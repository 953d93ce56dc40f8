use Rattle.can_wire.proofs.Stuffed.{unstuffed_all, unstuffed_inside}
use Rattle.can_wire.proofs.laws.unstuffing_gives_the_bits_back.Goals as goal

pub returns-clause-all : goal.returns-clause-all
returns-clause-all c = unstuffed_all

pub returns-clause-inside : goal.returns-clause-inside
returns-clause-inside c = unstuffed_inside
