use Rattle.std.proofs.Common.{arith, refl}
use Rattle.can_bits.proofs.Laid.{field_step}
use Rattle.can_bits.proofs.fields.push_field.Goals as goal

pub loop-place-preserved : goal.loop-place-preserved
loop-place-preserved c = field_step c.args.field c.args.number c.loop-place.place _ _ _ _ (omega (arith, c.loop-place-test.true)) refl c.in_ok-push.ensures.items c.loop-place.invariant
