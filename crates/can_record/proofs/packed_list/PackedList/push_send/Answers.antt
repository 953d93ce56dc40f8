use Rattle.std.proofs.Common.{sym, ◌∙◌}
use Rattle.can_record.proofs.packed_list.PackedList.push_send.Goals as goal

pub push_send-requires-clause-fits : goal.push_send-requires-clause-fits
push_send-requires-clause-fits c = sym (c.send_needs_box.ensures c.args.id c.args.frame.now) ∙ c.if-send_needs_box.false
