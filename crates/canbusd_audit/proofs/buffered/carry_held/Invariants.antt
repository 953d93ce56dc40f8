use Rattle.std.proofs.Common.{◌≡◌, ◌-◌, ◌≤◌, length, take}
use Rattle.can_replay.specs.EventTexts.{has_events}
use Rattle.canbusd_audit.specs.Audited.{StaysUnknown, TakesMore}
use Rattle.canbusd_audit.proofs.buffered.carry_held.Given as goal

abbrev pub invariant-loop-place : goal.invariant-loop-place
invariant-loop-place l = record {
  within : l.len ≤ length l.held;
  taken : TakesMore l.fn.audit (take l.len l.held) l.audit;
  unknown : StaysUnknown l.fn.audit l.audit;
  asked : has_events l.audit.events ≡ has_events l.fn.audit.events;
}

abbrev pub decreases-loop-place : goal.decreases-loop-place
decreases-loop-place l = length l.held - l.len
