use Rattle.can_record_text.proofs.Whole.{one_record}
use Rattle.can_record_text.proofs.text_laws.record_texts_tell_records_apart.Goals as goal

pub returns : goal.returns
returns c = one_record
