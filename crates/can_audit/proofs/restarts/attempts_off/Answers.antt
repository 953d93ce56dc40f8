use Rattle.can_audit.proofs.Restarting.{off-more, few-more}
use Rattle.can_audit.proofs.restarts.attempts_off.Goals as goal

pub loop-entry-preserved : goal.loop-entry-preserved
loop-entry-preserved c = record {
  count = off-more c.args.past.now c.loop-entry.entry-index c.entry-item.result c.args.iface c.loop-entry.off c.attempts_off_after-off.result c.loop-entry-test.true c.entry-item.is c.loop-entry.invariant.count c.attempts_off_after-off.ensures;
  few = few-more c.entry-item.result c.args.iface c.loop-entry.entry-index c.loop-entry.off c.attempts_off_after-off.result c.loop-entry.invariant.few c.attempts_off_after-off.ensures;
}
