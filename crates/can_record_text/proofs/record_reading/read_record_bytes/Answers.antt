use Rattle.can_record_text.proofs.Whole.{reads_back}
use Rattle.can_record_text.proofs.record_reading.read_record_bytes.Goals as goal

pub returns-clause-back : goal.returns-clause-back
returns-clause-back c = reads_back c.args.text.now c.read_text.result c.read_text.ensures
