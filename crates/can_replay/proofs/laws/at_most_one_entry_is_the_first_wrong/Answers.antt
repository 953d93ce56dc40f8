use Rattle.can_replay.proofs.Auditing.{none-wrong, one-first}
use Rattle.can_replay.proofs.laws.at_most_one_entry_is_the_first_wrong.Goals as goal

pub returns : goal.returns
returns c = record {
  legal = λ entries k h. none-wrong c.args.config entries k h.legal;
  one = λ proper entries j k. one-first c.args.config entries j k;
}
