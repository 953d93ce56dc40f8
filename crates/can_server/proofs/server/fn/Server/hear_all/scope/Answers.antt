use denote.Param.Send.{sendable}
use Rattle.can_server.proofs.Crossing.{delivery_sync}
use Rattle.can_server.proofs.server.fn.Server.hear_all.scope.Goals as goal

pub spawn-requires-send-F : goal.spawn-requires-send-F
spawn-requires-send-F g c κs within = search (sendable, delivery_sync) depth 30
