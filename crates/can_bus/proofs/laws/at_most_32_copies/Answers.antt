use Rattle.can_bus.proofs.CopyBound.{few-copies, rises-at-head, last_bit-adds}
use Rattle.can_bus.proofs.laws.at_most_32_copies.Goals as goal

pub returns-clause-copies : goal.returns-clause-copies
returns-clause-copies c proper past legal = few-copies c.args.config past legal proper.few_ifaces

pub returns-clause-rising : goal.returns-clause-rising
returns-clause-rising c proper past e legal = rises-at-head c.args.config past e legal proper.few_ifaces

pub returns-clause-last_bit : goal.returns-clause-last_bit
returns-clause-last_bit c past e legal = last_bit-adds c.args.config past e legal
