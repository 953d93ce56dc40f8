use Rattle.std.proofs.Common.{◌≡◌, ◌≤◌, ◌-◌, false, length, take, drop}
use Rattle.can_proto.specs.Messages.{has_mark}
use Rattle.can_proto.proofs.scanning.clear_blocks.Given as goal

abbrev pub invariant-loop-i : goal.invariant-loop-i
invariant-loop-i l = record {
  after : l.from ≤ l.i;
  within : l.i ≤ length l.piece;
  clear : has_mark (drop l.from (take l.i l.piece)) ≡ false;
}

abbrev pub decreases-loop-i : goal.decreases-loop-i
decreases-loop-i l = length l.piece - l.i
