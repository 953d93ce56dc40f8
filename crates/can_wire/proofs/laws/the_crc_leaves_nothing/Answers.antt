use Rattle.can_wire.proofs.Bounds.{crc_leaves_nothing}
use Rattle.can_wire.proofs.laws.the_crc_leaves_nothing.Goals as goal

pub returns : goal.returns
returns c = crc_leaves_nothing
