use Rattle.can_rules.proofs.Order.{swapped_chosen, swapped_after, swapped_verdicts}
use Rattle.can_rules.proofs.laws.order_matters_only_where_two_match.Goals as goal

pub returns-clause-verdict : goal.returns-clause-verdict
returns-clause-verdict c = swapped_chosen

pub returns-clause-counts : goal.returns-clause-counts
returns-clause-counts c = swapped_after

pub returns-clause-run : goal.returns-clause-run
returns-clause-run c = λ one other heads swapped. swapped_verdicts heads one other swapped
