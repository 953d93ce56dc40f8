use Rattle.can_attempt.proofs.Same.{same_receivers, same_class, same_counts}
use Rattle.can_attempt.proofs.laws.silent_interfaces_have_no_say.Goals as goal

pub returns-clause-class : goal.returns-clause-class
returns-clause-class c = same_class

pub returns-clause-receivers : goal.returns-clause-receivers
returns-clause-receivers c = same_receivers

pub returns-clause-counts : goal.returns-clause-counts
returns-clause-counts c t u s i below live = same_counts t u s i (s.live i below live)
