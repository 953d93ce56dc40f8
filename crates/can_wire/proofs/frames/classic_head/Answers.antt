use Rattle.can_wire.proofs.Fields.{classic_sent}
use Rattle.can_wire.proofs.frames.classic_head.Goals as goal

pub returns-clause-bits : goal.returns-clause-bits
returns-clause-bits c = rw (c.then-2.ensures.bits, c.then.ensures.bits, c.first_bits.ensures.bits, c.bit-reserved.ensures.value, c.is_extended.ensures, c.id.ensures, c.from.ensures, c.len.ensures.length) (classic_sent c.args.frame.now)
