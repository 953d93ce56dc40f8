use Rattle.can_wire.proofs.Fields.{extended_sent}
use Rattle.can_wire.proofs.frames.extended_bits.Goals as goal

pub returns-clause-bits : goal.returns-clause-bits
returns-clause-bits c = rw (c.then-5.ensures.bits, c.then-4.ensures.bits, c.then-3.ensures.bits, c.then-2.ensures.bits, c.then.ensures.bits, c.none.ensures.bits) (extended_sent c.args.number c.args.rtr c.requires)
