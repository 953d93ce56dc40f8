use Rattle.std.proofs.Common.{sym, ◌∙◌}
use Rattle.std.specs.Cmp.{booleans_Decides}
use Rattle.std.proofs.lemmas.Bool.{false≢true}
use Rattle.can_bits.specs.inner.Checking.{terms_of}
use Rattle.can_bits.proofs.Divided.{shifted_same, shifted_other}
use Rattle.can_bits.proofs.checksum.Generator.after_bit.Goals as goal

pub returns-then-is_one-is_first : goal.returns-then-is_one-is_first
returns-then-is_one-is_first c = shifted_same c.args.self.width c.args.register (terms_of c.args.self) c.args.is_one c.requires.0 c.requires.1 ((booleans_Decides _ _).0 c.if-is_one-is_first.true)

pub returns-else-is_one-is_first : goal.returns-else-is_one-is_first
returns-else-is_one-is_first c = shifted_other c.args.self.width c.args.register c.args.self.terms c.args.is_one c.requires.0 c.requires.1 (λ same. false≢true (sym c.if-is_one-is_first.false ∙ (booleans_Decides _ _).1 same))
