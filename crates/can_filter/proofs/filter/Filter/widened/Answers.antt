use Rattle.std.proofs.Common.{◌≡◌, ◌<◌, ◌^◌, true, not, if◌then◌else◌, ap, ◌∙◌, sym, bit_xor, arith}
use Rattle.std.proofs.lemmas.Nat.{xor_of_32}
use Rattle.can_filter.specs.Filters.{CanFilter, agrees}
use Rattle.can_filter.proofs.Widening.{agrees_still, agrees_too, lacks_still}
use Rattle.can_filter.proofs.filter.Filter.widened.Goals as goal

pub invariant_of-result : goal.invariant_of-result
invariant_of-result c = lacks_still (2 ^ 29) c.self.inside.mask c.other.inside.mask c.self.inside.id c.other.inside.id c.self.invariant

pub returns-clause-this : goal.returns-clause-this
returns-clause-this c word h =
    agrees_still c.self.inside.mask c.other.inside.mask c.self.inside.id c.other.inside.id word (ap (λ (f : CanFilter). agrees f word) c.self.view_is ∙ h)

pub returns-clause-other : goal.returns-clause-other
returns-clause-other c word h =
    let fits : bit_xor c.self.inside.id c.other.inside.id < 2 ^ 32 = xor_of_32 c.self.inside.id c.other.inside.id (omega arith) (omega arith) in
    let plain : agrees c.args.other word ≡ true = ap (λ b. if b then not (agrees c.args.other word) else agrees c.args.other word) (sym c.if-is_inverted.false ∙ c.is_inverted.ensures) ∙ h in
    agrees_too c.self.inside.mask c.other.inside.mask c.self.inside.id c.other.inside.id word (omega (arith, fits)) (ap (λ (f : CanFilter). agrees f word) c.other.view_is ∙ plain)
