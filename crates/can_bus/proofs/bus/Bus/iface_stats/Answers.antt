use Rattle.std.proofs.Common.{slice_get, ap, ◌∙◌}
use Rattle.std.specs.Option.{option_map}
use Rattle.can_attempt.specs.Attempts.{counts_at}
use Rattle.can_record.specs.Journal.{Journal}
use Rattle.can_bus.specs.State.{Parts}
use Rattle.can_bus.specs.Stats.{told_interface, iface_stats_of}
use Rattle.can_bus.proofs.Bounds.{done_and_lost}
use Rattle.can_bus.proofs.Telling.{told_iface}
use Rattle.can_bus.proofs.bus.Bus.iface_stats.Goals as goal

pub iface_stats-requires : goal.iface_stats-requires
iface_stats-requires g c = done_and_lost _ _ c.self.invariant

pub returns : goal.returns
returns g c =
    c.iface_stats.ensures
    ∙ ap (λ (q : Parts). option_map (told_interface (counts_at q.nodes c.args.iface)) (slice_get q.interfaces c.args.iface)) c.self.invariant.of_parts
    ∙ told_iface _ _ c.args.iface c.self.invariant.proper
    ∙ ap (λ (j : Journal). iface_stats_of j.config j.history c.args.iface) c.self.view_is
