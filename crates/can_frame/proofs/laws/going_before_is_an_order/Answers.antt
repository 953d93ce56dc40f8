use Rattle.can_frame.proofs.Bits.{GoesBefore-goes_before, goes_before-GoesBefore, goes_before-self, goes_before-through}
use Rattle.can_frame.proofs.Winning.{one_of_two}
use Rattle.can_frame.proofs.laws.going_before_is_an_order.Goals as goal

pub returns-clause-never_itself : goal.returns-clause-never_itself
returns-clause-never_itself c = λ xs h. goes_before-self xs (goes_before-GoesBefore xs xs h)

pub returns-clause-passes_on : goal.returns-clause-passes_on
returns-clause-passes_on c = λ xs ys zs h k. GoesBefore-goes_before xs zs (goes_before-through xs ys zs (goes_before-GoesBefore xs ys h) (goes_before-GoesBefore ys zs k))

pub returns-clause-one_of_two : goal.returns-clause-one_of_two
returns-clause-one_of_two c = one_of_two
