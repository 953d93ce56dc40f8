use Rattle.std.proofs.Common.{subst}
use Rattle.can_bus.specs.Heads.{ReportsNext}
use Rattle.can_bus.specs.State.{Parts}
use Rattle.can_bus.proofs.Attempting.{ready}
use Rattle.can_bus.proofs.HeadFacts.{told_head}
use Rattle.can_bus.proofs.journaled.Journaled.next_head.Goals as goal

pub next_head-requires : goal.next_head-requires
next_head-requires g c = ready _ _ c.state.ensures

pub returns : goal.returns
returns g c =
    let kept = c.state.ensures in
    told_head _ _ _ kept.legal kept.proper.few_ifaces (subst (λ (q : Parts). ReportsNext q c.next_head.result) kept.of_parts c.next_head.ensures)
