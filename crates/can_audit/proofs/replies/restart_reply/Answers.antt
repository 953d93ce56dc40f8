use Rattle.std.proofs.Common.{arith}
use Rattle.can_audit.proofs.Replying.{restart-silent, restart-live}
use Rattle.can_audit.proofs.replies.restart_reply.Goals as goal

pub returns-then-is_silent : goal.returns-then-is_silent
returns-then-is_silent c = λ m h. restart-silent c.args.config _ c.args.iface m c.nodes_of.result c.is_silent.result h (omega (arith, c.if-number-config.false, c.number.ensures.number)) (c.nodes_of.ensures h) c.is_silent.ensures c.if-is_silent.true

pub returns-else-is_silent : goal.returns-else-is_silent
returns-else-is_silent c = λ m h. restart-live c.args.config _ c.args.iface m c.nodes_of.result c.is_silent.result h (omega (arith, c.if-number-config.false, c.number.ensures.number)) (c.nodes_of.ensures h) c.is_silent.ensures c.if-is_silent.false
