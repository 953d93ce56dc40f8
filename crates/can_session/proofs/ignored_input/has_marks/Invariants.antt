use Rattle.std.proofs.Common.{◌≡◌, take}
use Rattle.can_proto.specs.Messages.{has_mark}
use Rattle.can_session.proofs.ignored_input.has_marks.Given as goal

abbrev pub invariant-loop-byte : goal.invariant-loop-byte
invariant-loop-byte l = l.found ≡ has_mark (take l.byte-index l.bytes)
