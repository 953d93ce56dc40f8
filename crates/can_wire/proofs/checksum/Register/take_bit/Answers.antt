use Rattle.std.proofs.Common.{sym, ap, ◌/◌, ◌∙◌}
use Rattle.std.proofs.lemmas.Nat.{and_mask}
use Rattle.can_wire.specs.Division.{generator_15}
use Rattle.can_wire.specs.inner.Sending.{shifted}
use Rattle.can_wire.proofs.Divided.{shifted_same, shifted_other}
use Rattle.can_wire.proofs.checksum.Register.take_bit.Goals as goal

pub returns-then-from-first : goal.returns-then-from-first
returns-then-from-first c =
    let first = and_mask (c.self.inside.bits / 16384) 1 in
    shifted_other c.self.inside.bits c.args.bit (λ same. c.if-from-first.true (c.from.ensures ∙ (same ∙ sym first))) ∙ ap (shifted generator_15 c.args.bit) c.self.view_is

pub returns-else-from-first : goal.returns-else-from-first
returns-else-from-first c =
    let first = and_mask (c.self.inside.bits / 16384) 1 in
    shifted_same c.self.inside.bits c.args.bit (sym c.from.ensures ∙ (c.if-from-first.false ∙ first)) ∙ ap (shifted generator_15 c.args.bit) c.self.view_is
