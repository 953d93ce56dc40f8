use Rattle.std.proofs.Common.{◌≡◌, ◌∙◌, IsTrue, [], arith}
use Rattle.can_record_text.specs.Spelling.{answered_line}
use Rattle.can_record_text.proofs.Again.{starts-with-bytes}
use Rattle.can_record_text.proofs.lines.is_line_of.Goals as goal

pub returns-then-push_answered : goal.returns-then-push_answered
returns-then-push_answered c =
    let test : IsTrue c.push_answered.result = grind (arith, c.if-push_answered.true) in
    let written : c.as_bytes.result.now ≡ answered_line c.args.event.now c.args.reply.now [] = c.as_bytes.ensures ∙ c.push_answered.ensures test in
    record {
      line = starts-with-bytes c.args.event.now c.args.reply.now c.args.text.now c.as_bytes.result.now c.begins.result written c.begins.ensures.yes c.begins.ensures.no;
      values = (c.hold_event.ensures, c.hold_reply.ensures);
    }
