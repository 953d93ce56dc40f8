use Rattle.std.proofs.Common.{◌∙◌}
use Rattle.can_record_text.proofs.record_reading.read_record.Goals as goal

pub returns-clause-back : goal.returns-clause-back
returns-clause-back c = λ d entries proper is. c.read_record_bytes.ensures.back d entries proper (is.0, c.as_bytes.ensures.value ∙ is.1)
