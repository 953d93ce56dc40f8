use Rattle.std.proofs.Common.{◌≡◌, drop}
use Rattle.can_frame.specs.Arbitration.{low_bits}
use Rattle.can_wire.specs.inner.Sending.{shifted_all}
use Rattle.can_bits.specs.Sent.{levels}
use Rattle.can_bits.specs.inner.Checking.{terms_of}
use Rattle.can_bits.proofs.checksum.Generator.after.Given as goal

abbrev pub invariant-loop-bit : goal.invariant-loop-bit
invariant-loop-bit l = shifted_all (terms_of l.self) (levels (drop l.bit-index l.bits)) (low_bits l.self.width l.register) ≡ shifted_all (terms_of l.fn.self) (levels l.bits) (low_bits l.fn.self.width l.fn.register)
