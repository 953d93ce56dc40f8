use Rattle.std.proofs.Common.{◌≡◌, refl}
use Rattle.can_frame.specs.Frames.{payload_flags}
use Rattle.can_wire.specs.FrameBits.{bit_of}
use Rattle.can_bits.proofs.Laid.{head_laid}
use Rattle.can_bits.proofs.fields.fd_head.Goals as goal

pub returns : goal.returns
returns c =
    let f = c.args.frame.now in
    let brs : c.bit.result ≡ bit_of (payload_flags f.payload).brs = rw (c.bit.ensures.value, c.flags.ensures) refl in
    head_laid f _ _ _ _ _ c.bit.result c.new-bits.ensures.items c.in_ok-push_first.ensures c.in_ok-push_field.ensures c.in_ok-push_field-2.ensures c.in_ok-push_field-3.ensures brs
