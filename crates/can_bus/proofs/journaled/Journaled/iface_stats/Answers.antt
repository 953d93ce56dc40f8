use Rattle.std.proofs.Common.{slice_get, ap, ◌∙◌}
use Rattle.std.specs.Option.{option_map}
use Rattle.can_attempt.specs.Attempts.{counts_at}
use Rattle.can_bus.specs.State.{Parts}
use Rattle.can_bus.specs.Stats.{told_interface}
use Rattle.can_bus.proofs.Bounds.{done_and_lost}
use Rattle.can_bus.proofs.Telling.{told_iface}
use Rattle.can_bus.proofs.journaled.Journaled.iface_stats.Goals as goal

pub iface_stats-requires : goal.iface_stats-requires
iface_stats-requires g c = done_and_lost _ _ c.state.ensures

pub returns : goal.returns
returns g c =
    let kept = c.state.ensures in
    c.iface_stats.ensures
    ∙ ap (λ (q : Parts). option_map (told_interface (counts_at q.nodes c.args.iface)) (slice_get q.interfaces c.args.iface)) kept.of_parts
    ∙ told_iface _ _ c.args.iface kept.proper
