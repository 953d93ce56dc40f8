use Rattle.can_frame.proofs.Upper.{spells_itself}
use Rattle.can_frame.proofs.laws.written_frame_text_spells_its_item.Goals as goal

pub returns : goal.returns
returns c = spells_itself
