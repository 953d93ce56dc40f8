use Rattle.std.proofs.Common.{◌≡◌, ◌++◌, drop}
use Rattle.can_bits.specs.Text.{silence_lines}
use Rattle.can_bits.proofs.text.put_silences.Given as goal

abbrev pub invariant-loop-other : goal.invariant-loop-other
invariant-loop-other l = l.text.items ++ silence_lines l.frame l.bits (drop l.other-index l.others) ≡ l.fn.text.items ++ silence_lines l.frame l.bits l.others
