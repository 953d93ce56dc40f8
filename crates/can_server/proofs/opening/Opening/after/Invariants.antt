use Rattle.std.proofs.Common.{◌≡◌, drop}
use Rattle.can_server.specs.Openings.{after_bytes}
use Rattle.can_server.proofs.opening.Opening.after.Given as goal

abbrev pub invariant-loop-i : goal.invariant-loop-i
invariant-loop-i l = after_bytes l.fn.self l.bytes ≡ after_bytes l.opening (drop l.i l.bytes)
