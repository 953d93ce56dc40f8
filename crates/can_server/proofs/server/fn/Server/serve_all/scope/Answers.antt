use denote.Param.Send.{sendable}
use Rattle.can_server.proofs.Crossing.{server_sync}
use Rattle.can_server.proofs.acceptor.Acceptor.TheSendSync as acceptor
use Rattle.can_server.proofs.server.fn.Server.serve_all.scope.Goals as goal

pub spawn-requires-send-F : goal.spawn-requires-send-F
spawn-requires-send-F g c κs within = search (sendable, server_sync, acceptor.the_sync) depth 30
