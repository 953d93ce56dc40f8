use Rattle.can_proto.proofs.TellingNames.{one-list, no-answer, no-item, no-item-from}
use Rattle.can_proto.proofs.laws.names_tell_apart.Goals as goal

pub returns-clause-one_list : goal.returns-clause-one_list
returns-clause-one_list c = one-list

pub returns-clause-no_answer : goal.returns-clause-no_answer
returns-clause-no_answer c = no-answer

pub returns-clause-no_item : goal.returns-clause-no_item
returns-clause-no_item c = no-item

pub returns-clause-no_item_from : goal.returns-clause-no_item_from
returns-clause-no_item_from c = no-item-from
