use Rattle.std.proofs.Common.{◌≡◌, ◌∙◌, []}
use Rattle.can_record_text.specs.Spelling.{answered_line}
use Rattle.can_record_text.proofs.Again.{kept, starts-with-bytes}
use Rattle.can_record_text.proofs.lines.is_filter_line_of.Goals as goal

pub returns : goal.returns
returns c =
    let line = answered_line c.args.event.now c.args.reply.now [] in
    let written : c.deref.result.now ≡ line = c.deref.ensures.value ∙ kept c.clear.new.self.items c.put_filter_line.new.out.items line c.clear.ensures.items c.in_ok-put_filter_line.ensures in
    starts-with-bytes c.args.event.now c.args.reply.now c.args.text.now c.deref.result.now c.begins.result written c.begins.ensures.yes c.begins.ensures.no
