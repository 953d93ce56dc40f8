use Rattle.std.proofs.Common.{◌≡◌, ◌++◌, drop, replicate}
use Rattle.can_wire.specs.Division.{generator_15}
use Rattle.can_wire.specs.FrameBits.{byte_bits}
use Rattle.can_wire.specs.inner.Sending.{bits_of, shifted_all}
use Rattle.can_wire.proofs.checksum.check_sequence.Given as goal

abbrev pub invariant-loop-byte : goal.invariant-loop-byte
invariant-loop-byte l = shifted_all generator_15 (byte_bits (drop l.byte-index l.bytes)) l.register ≡ shifted_all generator_15 (bits_of l.fn.head ++ byte_bits l.bytes) (replicate 15 0)
