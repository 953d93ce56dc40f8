use Rattle.can_bits.proofs.Divided.{one_first}
use Rattle.can_bits.proofs.checksum.Generator.one.Goals as goal

pub returns : goal.returns
returns c = one_first c.args.self.width c.requires.0 c.requires.1
