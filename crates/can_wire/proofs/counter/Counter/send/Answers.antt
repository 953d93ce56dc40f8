use Rattle.std.proofs.Common.{arith}
use Rattle.can_wire.proofs.Words.{low_bits_none, low_bits_step}
use Rattle.can_wire.proofs.counter.Counter.send.Goals as goal

pub loop-place-preserved : goal.loop-place-preserved
loop-place-preserved c = record {
  sent = rw (c.send_bit.ensures.sent, c.bit.ensures.bit) (rw (low_bits_step c.loop-place.place c.args.bits.number (omega (arith, c.loop-place-test.true))) at c.loop-place.invariant.sent);
  rises = omega arith;
  few = omega arith;
}

pub returns-clause-sent : goal.returns-clause-sent
returns-clause-sent c = rw (low_bits_none c.loop-place.place c.args.bits.number (omega (arith, c.loop-place-test.false))) at c.loop-place.invariant.sent
