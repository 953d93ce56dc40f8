use Rattle.std.proofs.Common.{sym, ap, subst, ◌∙◌}
use Rattle.can_frame.specs.Frames.{CanFrame}
use Rattle.can_wire.specs.FrameBits.{checked_bits}
use Rattle.can_bits.specs.Fields.{classic_fields}
use Rattle.can_bits.specs.inner.Sending.{AreFields}
use Rattle.can_bits.proofs.Whole.{classic_done}
use Rattle.can_bits.proofs.sending.classic_to_check_end.Goals as goal

pub returns : goal.returns
returns c =
    let f = c.args.frame.now in
    let are = subst (λ bits. AreFields bits (classic_fields f) (checked_bits f)) (sym c.deref.ensures.value) c.in_ok-classic_fields.ensures in
    classic_done f c.deref.result.now _ _ _ _ _ c.requires are c.new-sender.ensures.bits c.new-sender.ensures.run c.in_ok-send.ensures.bits c.in_ok-send.ensures.run c.in_ok-flush.ensures.bits
