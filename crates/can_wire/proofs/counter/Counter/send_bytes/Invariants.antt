use Rattle.std.proofs.Common.{◌≡◌, ◌≤◌, ◌+◌, ◌*◌, drop}
use Rattle.can_wire.specs.FrameBits.{byte_bits}
use Rattle.can_wire.specs.inner.Sending.{sent_all}
use Rattle.can_wire.proofs.counter.Counter.send_bytes.Given as goal

abbrev pub invariant-loop-byte : goal.invariant-loop-byte
invariant-loop-byte l = record {
  sent : sent_all (byte_bits (drop l.byte-index l.bytes)) l.self ≡ sent_all (byte_bits l.bytes) l.fn.self;
  rises : l.fn.self.count ≤ l.self.count;
  few : l.self.count ≤ l.fn.self.count + 16 * l.byte-index;
}
