use Rattle.std.proofs.Common.{◌≡◌}
use Rattle.can_frame.specs.Arbitration.{low_bits}
use Rattle.can_wire.specs.Division.{generator_15}
use Rattle.can_wire.specs.inner.Sending.{bits_of, shifted_all}
use Rattle.can_wire.proofs.checksum.Register.take.Given as goal

abbrev pub invariant-loop-place : goal.invariant-loop-place
invariant-loop-place l = shifted_all generator_15 (low_bits l.place l.bits.number) l.self ≡ shifted_all generator_15 (bits_of l.bits) l.fn.self
