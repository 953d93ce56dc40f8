use Rattle.can_wire.specs.FrameBits.{fd_generator}
use Rattle.can_bits.proofs.Laid.{check_laid}
use Rattle.can_bits.proofs.fields.fd_check.Goals as goal

pub returns : goal.returns
returns c =
    let g = c.fd_generator-generator in
    check_laid (fd_generator c.args.len) g.result.width g.result.terms c.args.stuff_bits c.one.result c.after-sent.result c.after-crc.result c.args.sent.now _ _ g.ensures.fits.0 g.ensures.terms c.requires c.in_ok-bits.ensures c.one.ensures c.after-sent.ensures (rw c.deref.ensures.value at c.after-crc.ensures) c.in_ok-push_field.ensures
