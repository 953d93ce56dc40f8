use Rattle.std.proofs.Common.{ap, ◌∙◌}
use Rattle.can_bus.specs.State.{Parts}
use Rattle.can_bus.proofs.journaled.Journaled.next_attempt.Goals as goal

pub returns : goal.returns
returns g c = c.tried.ensures ∙ ap (λ (q : Parts). q.tried) c.state.ensures.of_parts
