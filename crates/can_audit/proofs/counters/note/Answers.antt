use Rattle.can_audit.proofs.Counting.{counts-as}
use Rattle.can_audit.proofs.counters.note.Goals as goal

pub returns-in-Attempted : goal.returns-in-Attempted
returns-in-Attempted c = counts-as c.args.config c.args.entry.now.event c.args.entry.now.reply c.args.nodes.now c.note_attempt.new.nodes _ _ _ c.in-Attempt.is c.in-Attempted.is (c.note_attempt.ensures c.in-Attempt.field-0)
