use Rattle.std.proofs.Common.{◌≡◌, ◌++◌, take, drop, map}
use Rattle.can_bus.specs.News.{frame_posts}
use Rattle.can_bus.specs.State.{reached}
use Rattle.can_bus.proofs.posting.post_frame.Given as goal

abbrev pub invariant-loop-socket : goal.invariant-loop-socket
invariant-loop-socket g l = l.sockets ≡ map (reached (frame_posts l.tried l.pending)) (take l.socket-index l.fn.sockets) ++ drop l.socket-index l.fn.sockets
