use Rattle.std.proofs.Common.{subst}
use Rattle.can_bus.specs.State.{Parts}
use Rattle.can_bus.specs.Stats.{ReportsSocket}
use Rattle.can_bus.proofs.Bounds.{small_queued}
use Rattle.can_bus.proofs.Telling.{told_socket}
use Rattle.can_bus.proofs.journaled.Journaled.socket_stats.Goals as goal

pub socket_stats-requires : goal.socket_stats-requires
socket_stats-requires g c = small_queued _ _ c.state.ensures

pub returns : goal.returns
returns g c = told_socket _ _ _ _ c.state.ensures.legal (subst (λ (q : Parts). ReportsSocket q.sockets c.args.id.0 c.socket_stats.result) c.state.ensures.of_parts c.socket_stats.ensures)
