use Rattle.std.proofs.Common.{ap}
use Rattle.can_record.specs.Outcomes.{attempt_entry}
use Rattle.can_record.specs.Journal.{Kept}
use Rattle.can_record.proofs.Longer.{still_record}
use Rattle.can_record.proofs.records.Record.push_attempt.Goals as goal

pub invariant_of-self : goal.invariant_of-self
invariant_of-self c = still_record _ _ _ _ (attempt_entry c.args.moment c.args.verdict c.args.attempt.now) _ (ap (λ (k : Kept). k.config) c.self.view_is) c.in-Packed.is c.self.invariant c.requires.spelled c.push_attempt.ensures.more
