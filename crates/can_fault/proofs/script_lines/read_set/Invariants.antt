use Rattle.std.proofs.Common.{◌≡◌, length, drop}
use Rattle.can_frame.specs.Names.{names_in}
use Rattle.can_frame.specs.Sets.{no_ifaces}
use Rattle.can_fault.proofs.NamedSets.{added}
use Rattle.can_fault.proofs.script_lines.read_set.Given as goal

abbrev pub invariant-loop-name : goal.invariant-loop-name
invariant-loop-name l = added l.names no_ifaces (names_in l.list) ≡ added l.names l.set (drop (length l.yielded) (names_in l.list))
