use Rattle.std.proofs.Common.{◌≡◌, ◌++◌}
use Rattle.can_frame.specs.Arbitration.{low_bits}
use Rattle.can_bits.specs.inner.Sending.{in_field}
use Rattle.can_bits.proofs.fields.push_field.Given as goal

abbrev pub invariant-loop-place : goal.invariant-loop-place
invariant-loop-place l = l.bits.items ++ in_field l.field (low_bits l.place l.number) ≡ l.fn.bits.items ++ in_field l.field (low_bits l.count l.number)
