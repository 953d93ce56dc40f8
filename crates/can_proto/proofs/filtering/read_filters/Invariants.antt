use Rattle.std.proofs.Common.{◌≡◌, ◌+◌, ◌*◌, take, length}
use Rattle.can_proto.specs.Words.{words_of}
use Rattle.can_proto.specs.Commands.{with_front, filters_of}
use Rattle.can_proto.proofs.filtering.read_filters.Given as goal

abbrev pub invariant-loop-i : goal.invariant-loop-i
invariant-loop-i l = record {
  same : with_front (take l.i l.filters) (filters_of (words_of l.rest)) ≡ filters_of (words_of l.fn.rest);
  places : length l.filters ≡ 512;
  left : length (words_of l.rest) + l.i * 2 ≡ l.count * 2;
}
