use Rattle.can_record.specs.StoredEntry.{entry_stored}
use Rattle.can_record_text.specs.inner.StoredLines.{stored_line}
use Rattle.can_record_text.proofs.Growing.{nothing_out}
use Rattle.can_record_text.proofs.LineLists.{line_never_empty}
use Rattle.can_record_text.proofs.long_writing.write_stored.Goals as goal

pub returns-in_err-spell_stored : goal.returns-in_err-spell_stored
returns-in_err-spell_stored g c =
    let some = line_never_empty (entry_stored c.args.stored.now) in
    nothing_out _ (g.W.Write.contents c.args.writer.now) (stored_line c.args.stored.now) c.from_residual.result some c.from_residual.ensures.1
