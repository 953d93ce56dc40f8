use Rattle.can_replay.proofs.TextAnswering.{not_an_entry}
use Rattle.can_replay.proofs.Taking.{takes_unread}
use Rattle.can_replay.proofs.entry_audit.EntryAudit.carry_other.Goals as goal

pub returns-in-Err : goal.returns-in-Err
returns-in-Err c = takes_unread c.args.self.now c.args.self.now.bus c.args.line.now c.in-Err.why (not_an_entry c.in-Err.why c.args.line.now c.in-Err.ensures)
