use Rattle.std.proofs.Common.{◌≡◌, ◌≤◌, ◌++◌, length, drop}
use Rattle.can_frame.specs.FrameText.{digits}
use Rattle.can_frame.proofs.digit_writing.write_digits.Given as goal

abbrev pub invariant-loop-place : goal.invariant-loop-place
invariant-loop-place g l = record {
  inside : l.place ≤ length l.room;
  same : digits g.row.BASE (length l.fn.room) l.number ≡ digits g.row.BASE l.place l.left ++ drop l.place l.room;
}

abbrev pub decreases-loop-place : goal.decreases-loop-place
decreases-loop-place g l = l.place
