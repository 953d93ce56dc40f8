use Rattle.std.proofs.Common.{◌≡◌, refl}
use Rattle.can_frame.specs.Frames.{payload_len, payload_flags}
use Rattle.can_wire.specs.FrameBits.{bit_of, fd_code}
use Rattle.can_bits.proofs.Laid.{rest_laid}
use Rattle.can_bits.proofs.fields.fd_rest.Goals as goal

pub returns : goal.returns
returns c =
    let f = c.args.frame.now in
    let esi : c.bit.result ≡ bit_of (payload_flags f.payload).esi = rw (c.bit.ensures.value, c.flags.ensures) refl in
    let code : c.fd_code.result ≡ fd_code (payload_len f.payload) = rw (c.fd_code.ensures, c.len.ensures.length) refl in
    rest_laid f _ _ _ _ c.bit.result c.fd_code.result c.new-bits.ensures.items c.in_ok-push_field.ensures esi c.in_ok-push_field-2.ensures code (rw c.bytes.ensures at c.in_ok-push_bytes.ensures)
