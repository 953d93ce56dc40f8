use Rattle.can_filter.proofs.Inverses.{inverse_parts}
use Rattle.can_filter.proofs.laws.a_filter_and_its_inverse_part_all_words.Goals as goal

pub returns : goal.returns
returns c = inverse_parts
