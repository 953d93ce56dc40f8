use Rattle.std.proofs.Common.{◌≡◌, ◌++◌, drop, None}
use Rattle.can_bits.specs.Text.{lines_after}
use Rattle.can_bits.proofs.text.put_lines.Given as goal

abbrev pub invariant-loop-bit : goal.invariant-loop-bit
invariant-loop-bit l = l.text.items ++ lines_after l.before (drop l.bit-index l.bits) ≡ l.fn.text.items ++ lines_after None l.bits
