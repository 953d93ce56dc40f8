use Rattle.std.proofs.Common.{◌≡◌, drop}
use Rattle.can_bits.specs.Sent.{levels}
use Rattle.can_bits.specs.Text.{silence_after}
use Rattle.can_bits.proofs.silence.silent_at.Given as goal

abbrev pub invariant-loop-place : goal.invariant-loop-place
invariant-loop-place l = silence_after l.place (drop l.place l.bits) (levels (drop l.place l.others)) ≡ silence_after 0 l.bits (levels l.others)
