use Rattle.std.proofs.Common.{subst}
use Rattle.can_record.specs.Journal.{Journal}
use Rattle.can_bus.specs.Lean.{record_of}
use Rattle.can_bus.specs.State.{IsKept}
use Rattle.can_bus.proofs.Answering.{of_history}
use Rattle.can_bus.proofs.bus.Bus.state.Goals as goal

pub returns : goal.returns
returns g c = subst (λ (j : Journal). IsKept (record_of j.config j.history) c.self.inside.state) c.self.view_is (of_history _ _ c.self.invariant)
