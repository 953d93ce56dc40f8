use Rattle.std.proofs.Common.{◌≡◌, drop}
use Rattle.can_session.specs.IgnoredInput.{has_outside}
use Rattle.can_session.proofs.ignored_input.are_outside.Given as goal

abbrev pub invariant-loop-byte : goal.invariant-loop-byte
invariant-loop-byte l = has_outside l.is_begun (drop l.byte-index l.bytes) ≡ has_outside l.was_begun l.bytes
