use Rattle.std.proofs.Common.{arith}
use Rattle.can_audit.proofs.Sizes.{sent-short}
use Rattle.can_audit.proofs.transmit.gone_down.Goals as goal

pub returns-in_ok-sent_by-in-Down-clause-few : goal.returns-in_ok-sent_by-in-Down-clause-few
returns-in_ok-sent_by-in-Down-clause-few c = omega (arith, sent-short c.args.past.now c.args.iface c.in_ok-sent_by-in-Down.field-0.items c.in_ok-sent_by-in-Down.ensures)
