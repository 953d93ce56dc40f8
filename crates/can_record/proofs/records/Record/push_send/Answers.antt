use Rattle.std.proofs.Common.{ap}
use Rattle.can_record.specs.PackedEntry.{send_entry}
use Rattle.can_record.specs.Journal.{Kept}
use Rattle.can_record.proofs.Longer.{still_record}
use Rattle.can_record.proofs.records.Record.push_send.Goals as goal

pub invariant_of-self : goal.invariant_of-self
invariant_of-self c = still_record _ _ _ _ (send_entry c.args.id c.args.frame.now c.args.outcome) _ (ap (λ (k : Kept). k.config) c.self.view_is) c.in-Packed.is c.self.invariant c.requires.spelled c.push_send.ensures.more
