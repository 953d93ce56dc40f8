use Rattle.std.proofs.Common.{sym, ◌∙◌}
use Rattle.can_record.proofs.packed_list.PackedList.push_receive.Goals as goal

pub push_receive-requires-clause-fits : goal.push_receive-requires-clause-fits
push_receive-requires-clause-fits c = sym (c.receive_needs_box.ensures c.args.id) ∙ c.if-receive_needs_box.false
