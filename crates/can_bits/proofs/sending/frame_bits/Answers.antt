use Rattle.can_bits.proofs.Whole.{whole_frame}
use Rattle.can_bits.proofs.sending.frame_bits.Goals as goal

pub returns : goal.returns
returns c = whole_frame c.args.frame.now _ _ c.in_ok-bits.ensures c.in_ok-push_end.ensures
