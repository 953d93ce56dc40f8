use denote.Param.Send.{sendable}
use Rattle.can_server.proofs.Crossing.{long_server_sync}
use Rattle.can_server.proofs.serving.fn.LongServer.run.scope.Goals as goal

pub spawn-requires-send-F : goal.spawn-requires-send-F
spawn-requires-send-F g c κs within = search (sendable, long_server_sync) depth 30

pub serve-served-requires-send-N : goal.serve-served-requires-send-N
serve-served-requires-send-N g c κs within = search sendable depth 30

pub serve-served-requires-send-F : goal.serve-served-requires-send-F
serve-served-requires-send-F g c κs within = search sendable depth 30

pub serve-served-requires-send-G : goal.serve-served-requires-send-G
serve-served-requires-send-G g c κs within = search sendable depth 30
