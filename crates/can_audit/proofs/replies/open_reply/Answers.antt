use Rattle.std.proofs.Common.{arith}
use Rattle.can_audit.proofs.Sizes.{places-short}
use Rattle.can_audit.proofs.replies.open_reply.Goals as goal

pub overflow_cast-result : goal.overflow_cast-result
overflow_cast-result c = omega (arith, c.requires, places-short c.args.past.now c.in_ok-sockets.sockets.places.items c.in_ok-sockets.ensures.places)
