use Rattle.std.proofs.Common.{length, ap, subst, arith}
use Rattle.can_event.specs.Events.{IsLongConfig}
use Rattle.can_bus.specs.Headline.{Headline}
use Rattle.can_bus.specs.Legal.{IsLegal}
use Rattle.can_bus.specs.Long.{LongJournal}
use Rattle.can_bus.proofs.Headlines.{headline}
use Rattle.can_bus.proofs.Tails.{counted_short}
use Rattle.can_bus.proofs.long_bus.LongBus.len.Goals as goal

pub overflow_add-result : goal.overflow_add-result
overflow_add-result g c = omega (arith, c.self.invariant.holds.counted, counted_short c.self.invariant)

pub returns-clause-len : goal.returns-clause-len
returns-clause-len g c = omega (arith, c.self.invariant.holds.counted, ap (λ (j : LongJournal). length j.history) c.self.view_is)

pub returns-clause-proper : goal.returns-clause-proper
returns-clause-proper g c = subst (λ (j : LongJournal). IsLongConfig j.config) c.self.view_is c.self.invariant.kept.proper

pub returns-clause-legal : goal.returns-clause-legal
returns-clause-legal g c = subst (λ (j : LongJournal). IsLegal j.config j.history) c.self.view_is c.self.invariant.kept.legal

pub returns-clause-headline : goal.returns-clause-headline
returns-clause-headline g c = subst (λ (j : LongJournal). Headline j.config j.history) c.self.view_is (headline _ _ c.self.invariant.kept.proper c.self.invariant.kept.legal)
