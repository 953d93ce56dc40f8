use Rattle.std.proofs.Common.{arith, ◌∙◌}
use Rattle.std.proofs.lemmas.List.{drop_all}
use Rattle.can_wire.proofs.Fields.{sent_byte}
use Rattle.can_wire.proofs.counter.Counter.send_bytes.Goals as goal

pub loop-byte-preserved : goal.loop-byte-preserved
loop-byte-preserved c = record {
  sent = sent_byte c.args.bytes.now c.loop-byte.byte-index _ _ (omega (arith, c.loop-byte-test.true)) (rw (c.then.ensures.bits, c.none.ensures.bits, c.from.ensures) at c.send.ensures.sent) ∙ c.loop-byte.invariant.sent;
  rises = omega arith;
  few = omega arith;
}

pub returns-clause-sent : goal.returns-clause-sent
returns-clause-sent c = rw (drop_all c.loop-byte.byte-index c.args.bytes.now (omega (arith, c.loop-byte-test.false))) at c.loop-byte.invariant.sent
