use Rattle.std.proofs.Common.{◌≡◌, false, take, drop}
use Rattle.can_proto.specs.Messages.{has_mark}
use Rattle.can_proto.proofs.scanning.next_mark.Given as goal

abbrev pub invariant-loop-i : goal.invariant-loop-i
invariant-loop-i l = has_mark (drop l.from (take l.i l.piece)) ≡ false
