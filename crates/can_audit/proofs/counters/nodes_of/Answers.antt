use Rattle.can_audit.proofs.Counting.{first-nodes, counted_more}
use Rattle.can_audit.proofs.counters.nodes_of.Goals as goal

pub loop-entry-init : goal.loop-entry-init
loop-entry-init c = λ h. first-nodes c.args.config c.zero.result c.zero.ensures

pub loop-entry-preserved : goal.loop-entry-preserved
loop-entry-preserved c = counted_more c.args.config c.args.past.now c.loop-entry.entry-index c.entry-item.result c.loop-entry.nodes c.note.new.nodes c.loop-entry-test.true c.entry-item.is c.loop-entry.invariant c.note.ensures
