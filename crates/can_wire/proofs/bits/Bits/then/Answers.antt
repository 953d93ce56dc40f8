use Rattle.can_wire.proofs.Words.{then_bits}
use Rattle.can_wire.proofs.bits.Bits.then.Goals as goal

pub returns-clause-bits : goal.returns-clause-bits
returns-clause-bits c = rw c.from.ensures (then_bits c.args.self.count c.args.count c.args.self.number c.args.number c.requires.room c.requires.narrow)
