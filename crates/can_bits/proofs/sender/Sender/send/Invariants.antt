use Rattle.std.proofs.Common.{◌≡◌, ◌++◌, drop}
use Rattle.can_bits.specs.inner.Sending.{last_after, sent_all}
use Rattle.can_bits.proofs.sender.Sender.send.Given as goal

abbrev pub invariant-loop-bit : goal.invariant-loop-bit
invariant-loop-bit l = record {
  bits : l.self.bits.items ++ sent_all l.is_fast (drop l.bit-index l.bits) l.self.run ≡ l.fn.self.bits.items ++ sent_all l.is_fast l.bits l.fn.self.run;
  run : last_after (drop l.bit-index l.bits) l.self.run ≡ last_after l.bits l.fn.self.run;
}
