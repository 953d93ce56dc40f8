use Rattle.std.proofs.Common.{arith}
use Rattle.can_dialog.proofs.Naming.{one_more, all_put}
use Rattle.can_dialog.proofs.names.put_names.Goals as goal

pub loop-number-preserved : goal.loop-number-preserved
loop-number-preserved c = one_more c.args.names.now c.loop-number.number c.args.text.now.items c.loop-number.text.items c.put_name.new.text.items (omega (arith, c.loop-number-test.true, c.count-number-end.ensures.count)) c.loop-number.invariant c.in_ok-put_name.ensures

pub returns : goal.returns
returns c = all_put c.args.names.now c.loop-number.number c.args.text.now.items c.loop-number.text.items (omega (arith, c.loop-number-test.false, c.count-number-end.ensures.count)) c.loop-number.invariant
