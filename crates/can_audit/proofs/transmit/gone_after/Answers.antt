use Rattle.std.proofs.Common.{arith}
use Rattle.can_audit.proofs.Sizes.{sent-short}
use Rattle.can_audit.proofs.transmit.gone_after.Goals as goal

pub returns-then-contains-clause-few : goal.returns-then-contains-clause-few
returns-then-contains-clause-few c = omega (arith, sent-short c.args.past.now c.args.iface c.in_ok-sent_by-in-Attempted-Tried.field-0.items c.in_ok-sent_by-in-Attempted-Tried.ensures)
