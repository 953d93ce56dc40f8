use Rattle.std.proofs.Common.{◌≡◌, ◌++◌, drop}
use Rattle.can_bits.specs.inner.Sending.{sent_fixed}
use Rattle.can_bits.proofs.sender.Sender.send_fixed.Given as goal

abbrev pub invariant-loop-bit : goal.invariant-loop-bit
invariant-loop-bit l = l.self.bits.items ++ sent_fixed l.is_fast l.last l.due (drop l.bit-index l.bits) ≡ l.fn.self.bits.items ++ sent_fixed l.is_fast l.fn.self.run.is_recessive 0 l.bits
