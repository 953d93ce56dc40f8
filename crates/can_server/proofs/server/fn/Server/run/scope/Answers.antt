use denote.Param.Send.{sendable}
use Rattle.can_server.proofs.Crossing.{server_sync}
use Rattle.can_server.proofs.server.Closing.TheSendSync as closing
use Rattle.can_server.proofs.server.fn.Server.run.scope.Goals as goal

pub spawn-requires-send-F : goal.spawn-requires-send-F
spawn-requires-send-F g c κs within = search (sendable, server_sync) depth 30

pub spawn-requires-in-Some-send-F : goal.spawn-requires-in-Some-send-F
spawn-requires-in-Some-send-F g c κs within = search (sendable, server_sync, closing.the_send) depth 30
