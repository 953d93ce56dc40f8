use Rattle.std.proofs.Common.{◌||◌, Bool, take, get_or, sym, ap, ◌∙◌, arith}
use Rattle.std.proofs.lemmas.List.{take_more}
use Rattle.can_proto.specs.Messages.{has_mark, is_mark}
use Rattle.can_proto.proofs.Pieces.{mark_more}
use Rattle.can_session.proofs.ignored_input.has_marks.Goals as goal

pub loop-byte-preserved : goal.loop-byte-preserved
loop-byte-preserved c =
    let i = c.loop-byte.byte-index in
    let bytes = c.args.bytes.now in
    ap (λ (found : Bool). found || is_mark (get_or bytes i 0)) c.loop-byte.invariant
    ∙ sym (ap has_mark (take_more bytes i 0 (omega arith)) ∙ mark_more (take i bytes) (get_or bytes i 0))
