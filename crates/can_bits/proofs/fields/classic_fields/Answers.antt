use Rattle.can_bits.proofs.Laid.{classic_laid}
use Rattle.can_bits.proofs.fields.classic_fields.Goals as goal

pub returns : goal.returns
returns c = classic_laid c.args.frame.now _ _ c.after-crc.result c.in_ok-bits.ensures (rw c.deref.ensures.value at c.after-crc.ensures) c.in_ok-push_field.ensures
