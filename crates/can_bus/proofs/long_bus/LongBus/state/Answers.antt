use Rattle.std.proofs.Common.{subst}
use Rattle.can_bus.specs.Lean.{record_of}
use Rattle.can_bus.specs.Long.{LongJournal}
use Rattle.can_bus.specs.State.{IsKept}
use Rattle.can_bus.proofs.long_bus.LongBus.state.Goals as goal

pub returns : goal.returns
returns g c = subst (λ (j : LongJournal). IsKept (record_of j.config j.history) c.self.inside.state) c.self.view_is c.self.invariant.kept
