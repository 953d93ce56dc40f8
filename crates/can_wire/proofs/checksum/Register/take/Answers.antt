use Rattle.std.proofs.Common.{arith}
use Rattle.can_wire.proofs.Words.{low_bits_none, low_bits_step}
use Rattle.can_wire.proofs.checksum.Register.take.Goals as goal

pub loop-place-preserved : goal.loop-place-preserved
loop-place-preserved c = rw (c.take_bit.ensures, c.bit.ensures.bit) (rw (low_bits_step c.loop-place.place c.args.bits.number (omega (arith, c.loop-place-test.true))) at c.loop-place.invariant)

pub returns : goal.returns
returns c = rw (low_bits_none c.loop-place.place c.args.bits.number (omega (arith, c.loop-place-test.false))) at c.loop-place.invariant
