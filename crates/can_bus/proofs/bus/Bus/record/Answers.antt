use Rattle.std.proofs.Common.{subst}
use Rattle.can_bus.specs.Headline.{Headline}
use Rattle.can_record.specs.Journal.{Journal}
use Rattle.can_bus.proofs.Headlines.{headline}
use Rattle.can_bus.proofs.bus.Bus.record.Goals as goal

pub returns-clause-headline : goal.returns-clause-headline
returns-clause-headline g c = subst (λ (j : Journal). Headline j.config j.history) c.self.view_is (headline _ _ c.self.invariant.proper c.self.invariant.legal)
