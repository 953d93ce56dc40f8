use Rattle.can_proto.proofs.TellingAnswers.{one-answer, no-item, no-item-from}
use Rattle.can_proto.proofs.laws.answers_tell_apart.Goals as goal

pub returns-clause-one_answer : goal.returns-clause-one_answer
returns-clause-one_answer c = one-answer

pub returns-clause-no_item : goal.returns-clause-no_item
returns-clause-no_item c = no-item

pub returns-clause-no_item_from : goal.returns-clause-no_item_from
returns-clause-no_item_from c = no-item-from
