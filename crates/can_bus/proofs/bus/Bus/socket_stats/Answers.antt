use Rattle.std.proofs.Common.{ap, ◌∙◌, subst}
use Rattle.can_record.specs.Journal.{Journal}
use Rattle.can_bus.specs.State.{Parts}
use Rattle.can_bus.specs.Stats.{ReportsSocket, socket_stats_of}
use Rattle.can_bus.proofs.Bounds.{small_queued}
use Rattle.can_bus.proofs.Telling.{told_socket}
use Rattle.can_bus.proofs.bus.Bus.socket_stats.Goals as goal

pub socket_stats-requires : goal.socket_stats-requires
socket_stats-requires g c = small_queued _ _ c.self.invariant

pub returns : goal.returns
returns g c =
    told_socket _ _ _ _ c.self.invariant.legal (subst (λ (q : Parts). ReportsSocket q.sockets c.args.id.0 c.socket_stats.result) c.self.invariant.of_parts c.socket_stats.ensures)
    ∙ ap (λ (j : Journal). socket_stats_of j.config j.history c.args.id.0) c.self.view_is
