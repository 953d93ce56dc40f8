use Rattle.std.proofs.Common.{ap, ◌∙◌}
use Rattle.can_bus.specs.State.{Parts}
use Rattle.can_bus.proofs.NodeFacts.{counters-kept}
use Rattle.can_bus.proofs.journaled.Journaled.counters.Goals as goal

pub returns : goal.returns
returns g c = c.counters.ensures ∙ ap (λ (q : Parts). q.nodes.counters) c.state.ensures.of_parts ∙ counters-kept _ _
