use Rattle.std.proofs.Common.{ap, ◌∙◌, subst}
use Rattle.can_bus.specs.Heads.{ReportsNext, next_head}
use Rattle.can_record.specs.Journal.{Journal}
use Rattle.can_bus.specs.State.{Parts}
use Rattle.can_bus.proofs.Attempting.{ready}
use Rattle.can_bus.proofs.HeadFacts.{told_head}
use Rattle.can_bus.proofs.bus.Bus.next_head.Goals as goal

pub next_head-requires : goal.next_head-requires
next_head-requires g c = ready _ _ c.self.invariant

pub returns : goal.returns
returns g c =
    told_head _ _ _ c.self.invariant.legal c.self.invariant.proper.few_ifaces (subst (λ (q : Parts). ReportsNext q c.next_head.result) c.self.invariant.of_parts c.next_head.ensures)
    ∙ ap (λ (j : Journal). next_head j.config j.history) c.self.view_is
