use Rattle.can_frame.proofs.Bits.{GoesBefore-goes_before, goes_before-GoesBefore}
use Rattle.can_frame.proofs.laws.test_is_the_rule.Goals as goal

pub returns : goal.returns
returns c = λ xs ys. (GoesBefore-goes_before xs ys, goes_before-GoesBefore xs ys)
