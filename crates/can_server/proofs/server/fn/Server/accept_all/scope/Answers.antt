use denote.Param.Send.{sendable}
use Rattle.can_server.proofs.Crossing.{server_sync}
use Rattle.can_server.proofs.accepting.Visit.TheSendSync as visit
use Rattle.can_server.proofs.server.fn.Server.accept_all.scope.Goals as goal

pub spawn-requires-send-F : goal.spawn-requires-send-F
spawn-requires-send-F g c κs within = search (sendable, server_sync, visit.the_send) depth 30
