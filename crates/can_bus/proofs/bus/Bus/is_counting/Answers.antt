use Rattle.std.proofs.Common.{ℕ, ◌==◌, not, ap, ◌∙◌}
use Rattle.std.specs.List.{list_any}
use Rattle.can_bus.specs.AutoRestart.{is_counting}
use Rattle.can_record.specs.Journal.{Journal}
use Rattle.can_bus.specs.State.{Parts}
use Rattle.can_bus.proofs.LeftFacts.{counting-kept}
use Rattle.can_bus.proofs.bus.Bus.is_counting.Goals as goal

pub returns : goal.returns
returns g c =
    c.is_counting.ensures
    ∙ ap (λ (q : Parts). list_any (λ (n : ℕ). not (n == 0)) q.left) c.self.invariant.of_parts
    ∙ counting-kept c.self.inside.record.config c.self.inside.record.history c.self.invariant.legal c.self.invariant.proper.few_ifaces
    ∙ ap (λ (j : Journal). is_counting j.config j.history) c.self.view_is
