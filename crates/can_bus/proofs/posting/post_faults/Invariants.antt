use Rattle.std.proofs.Common.{◌≡◌, ◌++◌, take, drop, map}
use Rattle.can_bus.specs.News.{fault_posts}
use Rattle.can_bus.specs.State.{reached}
use Rattle.can_bus.proofs.posting.post_faults.Given as goal

abbrev pub invariant-loop-socket : goal.invariant-loop-socket
invariant-loop-socket g l = l.sockets ≡ map (reached (fault_posts l.reporting l.attempted)) (take l.socket-index l.fn.sockets) ++ drop l.socket-index l.fn.sockets
