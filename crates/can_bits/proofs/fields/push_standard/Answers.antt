use Rattle.std.proofs.Common.{false, subst}
use Rattle.std.proofs.lemmas.Result.{on_ok_weaker}
use Rattle.can_wire.proofs.Fields.{standard_sent}
use Rattle.can_bits.specs.Fields.{first_fields}
use Rattle.can_bits.specs.declared.bit.Field.TheVariants.{StartOfFrame, Identifier, IdentifierExtension}
use Rattle.can_bits.specs.inner.Sending.{Adds}
use Rattle.can_bits.proofs.Laid.{adds_field, adds_both}
use Rattle.can_bits.proofs.fields.push_standard.Goals as goal

pub returns : goal.returns
returns c =
    let one = adds_field StartOfFrame 1 0 _ _ c.in_ok-push_field.ensures in
    let two = adds_both _ _ _ _ _ _ _ one (adds_field Identifier 11 c.args.number _ _ c.in_ok-push_field-2.ensures) in
    let three = adds_both _ _ _ _ _ _ _ two (adds_field c.args.remote 1 c.args.rtr _ _ c.in_ok-push_field-3.ensures) in
    on_ok_weaker c.push_field-4.result (λ last. subst (Adds c.args.bits.now.items c.push_field-4.new.bits.items (first_fields false c.args.remote)) (standard_sent c.args.number c.args.rtr c.requires)
    (adds_both _ _ _ _ _ _ _ three (adds_field IdentifierExtension 1 0 _ _ last))) c.push_field-4.ensures
