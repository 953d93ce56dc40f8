use Rattle.can_wire.proofs.Fields.{standard_sent}
use Rattle.can_wire.proofs.frames.standard_bits.Goals as goal

pub returns-clause-bits : goal.returns-clause-bits
returns-clause-bits c = rw (c.then-4.ensures.bits, c.then-3.ensures.bits, c.then-2.ensures.bits, c.then.ensures.bits, c.none.ensures.bits) (standard_sent c.args.number c.args.rtr c.requires)
