use Rattle.can_wire.proofs.Fields.{fd_sent}
use Rattle.can_wire.proofs.frames.fd_head.Goals as goal

pub returns-clause-bits : goal.returns-clause-bits
returns-clause-bits c = rw (c.then-2.ensures.bits, c.then.ensures.bits, c.first_bits.ensures.bits, c.bit.ensures.value, c.flags.ensures) (fd_sent c.args.frame.now)
