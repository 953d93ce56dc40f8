use Rattle.std.proofs.Common.{ap, ◌∙◌}
use Rattle.can_record.specs.Journal.{Journal}
use Rattle.can_bus.specs.State.{Parts}
use Rattle.can_bus.specs.Stats.{all_counts}
use Rattle.can_bus.proofs.NodeFacts.{counters-kept}
use Rattle.can_bus.proofs.bus.Bus.counters.Goals as goal

pub returns : goal.returns
returns g c =
    c.counters.ensures
    ∙ ap (λ (q : Parts). q.nodes.counters) c.self.invariant.of_parts
    ∙ counters-kept c.self.inside.record.config c.self.inside.record.history
    ∙ ap (λ (j : Journal). all_counts j.config j.history) c.self.view_is
