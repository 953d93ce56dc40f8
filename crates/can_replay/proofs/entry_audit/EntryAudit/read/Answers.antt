use Rattle.std.proofs.Common.{[], drop, length}
use Rattle.can_record_text.specs.Spelling.{bus_words, spell}
use Rattle.can_replay.proofs.Ending.{begun_at, no_bus}
use Rattle.can_replay.proofs.entry_audit.EntryAudit.read.Goals as goal

pub returns-in-Err-Bad-clause-fault : goal.returns-in-Err-Bad-clause-fault
returns-in-Err-Bad-clause-fault c = λ after may. no_bus c.args.version c.args.line.now after (c.in-Err-Bad.ensures.bad c.in-Err-Bad.field-0-is) may

pub returns-clause-taken : goal.returns-clause-taken
returns-clause-taken c = λ is.
    let found = c.in-Ok.ensures.found in
    begun_at c.args.version c.in-Ok.config c.args.line.now (drop (length (spell (bus_words c.args.version c.in-Ok.config) [])) c.args.line.now) c.in-Ok-new.bus c.nothing.result found.good found.begins c.in-Ok-new.ensures.made c.in-Ok-new.ensures.config c.nothing.ensures is
