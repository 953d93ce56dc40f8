use Rattle.std.proofs.Common.{ℕ, ◌==◌, not, ap, ◌∙◌}
use Rattle.std.specs.List.{list_any}
use Rattle.can_bus.specs.State.{Parts}
use Rattle.can_bus.proofs.LeftFacts.{counting-kept}
use Rattle.can_bus.proofs.journaled.Journaled.is_counting.Goals as goal

pub returns : goal.returns
returns g c =
    let kept = c.state.ensures in
    c.is_counting.ensures
    ∙ ap (λ (q : Parts). list_any (λ (n : ℕ). not (n == 0)) q.left) kept.of_parts
    ∙ counting-kept _ _ kept.legal kept.proper.few_ifaces
