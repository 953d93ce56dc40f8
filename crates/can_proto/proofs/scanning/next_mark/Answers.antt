use Rattle.std.proofs.Common.{arith}
use Rattle.can_proto.proofs.Steps.{clear_more}
use Rattle.can_proto.proofs.scanning.next_mark.Goals as goal

pub loop-i-preserved : goal.loop-i-preserved
loop-i-preserved c = clear_more c.args.piece.now c.args.from c.loop-i.i (omega arith) c.loop-i-test.true c.loop-i.invariant c.if-byte-eq60.false c.if-byte-eq62.false
