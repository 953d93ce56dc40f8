use Rattle.std.proofs.Common.{◌≡◌, ◌++◌, drop}
use Rattle.can_wire.specs.FrameBits.{byte_bits}
use Rattle.can_bits.specs.declared.bit.Field.TheVariants.{Data}
use Rattle.can_bits.specs.inner.Sending.{in_field}
use Rattle.can_bits.proofs.fields.push_bytes.Given as goal

abbrev pub invariant-loop-byte : goal.invariant-loop-byte
invariant-loop-byte l = l.bits.items ++ in_field Data (byte_bits (drop l.byte-index l.bytes)) ≡ l.fn.bits.items ++ in_field Data (byte_bits l.bytes)
