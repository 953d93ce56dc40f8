use Rattle.std.proofs.Common.{◌≡◌, ◌*◌, ◌++◌, take, drop}
use Rattle.can_frame.specs.FrameText.{pairs}
use Rattle.can_frame.proofs.digit_writing.write_pairs.Given as goal

abbrev pub invariant-loop-place : goal.invariant-loop-place
invariant-loop-place l = take (2 * l.place) l.room ++ pairs (drop l.place l.bytes) ≡ pairs l.bytes
