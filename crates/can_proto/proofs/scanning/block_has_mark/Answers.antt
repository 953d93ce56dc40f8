use Rattle.std.proofs.Common.{◌||◌, Bool, get_or, sym, ap, ◌∙◌, arith}
use Rattle.can_proto.proofs.Steps.{clear_start, block_more}
use Rattle.can_proto.specs.Messages.{is_mark}
use Rattle.can_proto.proofs.scanning.block_has_mark.Goals as goal

pub loop-i-init : goal.loop-i-init
loop-i-init c = sym (clear_start c.args.piece.now c.args.from)

pub loop-i-preserved : goal.loop-i-preserved
loop-i-preserved c =
    let b = get_or c.args.piece.now c.loop-i.i 0 in
    ap (λ (found : Bool). found || is_mark b) c.loop-i.invariant ∙ sym (block_more c.args.piece.now c.args.from c.loop-i.i c.loop-i.auto.i (omega arith))
