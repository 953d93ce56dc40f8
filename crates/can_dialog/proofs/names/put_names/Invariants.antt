use Rattle.std.proofs.Common.{◌≡◌, ◌++◌, take}
use Rattle.can_proto.specs.Spelling.{spaced}
use Rattle.can_dialog.proofs.names.put_names.Given as goal

abbrev pub invariant-loop-number : goal.invariant-loop-number
invariant-loop-number l = l.text.items ≡ l.fn.text.items ++ spaced (take l.number l.names)
