use Rattle.std.proofs.Common.{◌≡◌, ◌++◌, length}
use Rattle.can_rules.specs.RunFaults.{made_until}
use Rattle.can_replay.specs.TakenRules.{rules_until}
use Rattle.can_replay.proofs.taken_rules.put_until.Given as goal

abbrev pub invariant-loop-made : goal.invariant-loop-made
invariant-loop-made l = record {
  lines : l.out.items ++ rules_until l.attempt l.faults ≡ l.fn.out.items ++ rules_until l.attempt l.fn.faults;
  after : made_until l.attempt l.faults ≡ made_until l.attempt l.fn.faults;
}

abbrev pub decreases-loop-made : goal.decreases-loop-made
decreases-loop-made l = length l.faults.later
