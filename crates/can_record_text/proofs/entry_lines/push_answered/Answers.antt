use Rattle.std.proofs.Common.{arith}
use Rattle.can_record_text.proofs.Written.{plain_line}
use Rattle.can_record_text.proofs.entry_lines.push_answered.Goals as goal

pub returns : goal.returns
returns c = λ yes. plain_line c.args.event.now c.args.reply.now c.push_event.result.now c.push_event.new.line c.push_reply.new.line c.push_event.ensures.text (grind (arith, c.is_empty.ensures, c.if-not-is_empty.false)) c.push_reply.ensures
