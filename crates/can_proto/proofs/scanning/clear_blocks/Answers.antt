use Rattle.std.proofs.Common.{◌+◌, sym, ◌∙◌, arith}
use Rattle.can_proto.proofs.Steps.{clear_start, clear_block}
use Rattle.can_proto.proofs.scanning.clear_blocks.Goals as goal

pub loop-i-init : goal.loop-i-init
loop-i-init c = record { after = omega arith; within = omega arith; clear = clear_start c.args.piece.now c.args.from }

pub loop-i-preserved : goal.loop-i-preserved
loop-i-preserved c = record {
  after = omega arith;
  within = omega arith;
  clear = clear_block c.args.piece.now c.args.from c.loop-i.i (c.loop-i.i + 16) c.loop-i.invariant.after (omega arith) (omega arith) c.loop-i.invariant.clear (sym c.block_has_mark.ensures ∙ c.if-block_has_mark.false);
}
