use Rattle.std.proofs.Common.{◌≡◌, ◌+◌, take, length}
use Rattle.can_proto.specs.Words.{words_of}
use Rattle.can_proto.specs.Commands.{with_front, bytes_of}
use Rattle.can_proto.proofs.sending.spelled_bytes.Given as goal

abbrev pub invariant-loop-i : goal.invariant-loop-i
invariant-loop-i g l = record {
  same : with_front (take l.i l.bytes) (bytes_of (words_of l.rest)) ≡ bytes_of (words_of l.fn.rest);
  whole : length l.bytes ≡ g.row.N;
  left : length (words_of l.rest) + l.i ≡ length (words_of l.fn.rest);
}
