use Rattle.std.proofs.Common.{◌≡◌, ◌≤◌, ◌+◌, ◌*◌}
use Rattle.can_frame.specs.Arbitration.{low_bits}
use Rattle.can_wire.specs.inner.Sending.{bits_of, sent_all}
use Rattle.can_wire.proofs.counter.Counter.send.Given as goal

abbrev pub invariant-loop-place : goal.invariant-loop-place
invariant-loop-place l = record {
  sent : sent_all (low_bits l.place l.bits.number) l.self ≡ sent_all (bits_of l.bits) l.fn.self;
  rises : l.fn.self.count ≤ l.self.count;
  few : l.self.count + 2 * l.place ≤ l.fn.self.count + 2 * l.bits.count;
}
