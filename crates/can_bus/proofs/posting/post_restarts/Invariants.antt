use Rattle.std.proofs.Common.{◌≡◌, ◌++◌, take, drop, map}
use Rattle.can_bus.specs.Posts.{auto_restart_posts}
use Rattle.can_bus.specs.State.{reached}
use Rattle.can_bus.proofs.posting.post_restarts.Given as goal

abbrev pub invariant-loop-socket : goal.invariant-loop-socket
invariant-loop-socket g l = l.sockets ≡ map (reached (auto_restart_posts l.restarted l.moment)) (take l.socket-index l.fn.sockets) ++ drop l.socket-index l.fn.sockets
