use Rattle.std.proofs.Common.{◌≡◌, refl, ◌∙◌}
use Rattle.can_frame.specs.Frames.{payload_len}
use Rattle.can_wire.specs.FrameBits.{bit_of}
use Rattle.can_bits.proofs.Laid.{covered_laid}
use Rattle.can_bits.proofs.fields.covered_fields.Goals as goal

pub returns : goal.returns
returns c =
    let f = c.args.frame.now in
    let reserved : c.bit-reserved.result ≡ bit_of f.id.extended = rw (c.bit-reserved.ensures.value, c.is_extended.ensures, c.id.ensures) refl in
    let len : c.from.result ≡ payload_len f.payload = c.from.ensures ∙ c.len.ensures.length in
    covered_laid f _ _ _ _ _ c.bit-reserved.result c.from.result c.new-bits.ensures.items c.in_ok-push_first.ensures c.in_ok-push_field.ensures reserved c.in_ok-push_field-2.ensures len (rw c.bytes.ensures at c.in_ok-push_bytes.ensures)
