use Rattle.can_frame.specs.Frames.{payload_len, payload_flags}
use Rattle.can_wire.specs.FrameBits.{fd_code}
use Rattle.can_wire.proofs.Fields.{control_sent}
use Rattle.can_wire.proofs.frames.fd_control.Goals as goal

pub returns-clause-bits : goal.returns-clause-bits
returns-clause-bits c = rw (c.then-2.ensures.bits, c.then.ensures.bits, c.none.ensures.bits, c.fd_code.ensures, c.len.ensures.length, c.bit.ensures.value, c.flags.ensures) (control_sent (payload_flags c.args.frame.now.payload).esi (fd_code (payload_len c.args.frame.now.payload)))
