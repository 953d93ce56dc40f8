use Rattle.std.proofs.Common.{◌≡◌, take, drop}
use Rattle.can_proto.specs.Messages.{has_mark}
use Rattle.can_proto.proofs.scanning.block_has_mark.Given as goal

abbrev pub invariant-loop-i : goal.invariant-loop-i
invariant-loop-i l = l.found ≡ has_mark (drop l.from (take l.i l.piece))
