use Rattle.can_proto.proofs.TellingItems.{one-item, one-item-without, one-item-from}
use Rattle.can_proto.proofs.laws.texts_tell_items_apart.Goals as goal

pub returns-clause-whole : goal.returns-clause-whole
returns-clause-whole c = one-item

pub returns-clause-without_data : goal.returns-clause-without_data
returns-clause-without_data c = one-item-without

pub returns-clause-origins : goal.returns-clause-origins
returns-clause-origins c = one-item-from
