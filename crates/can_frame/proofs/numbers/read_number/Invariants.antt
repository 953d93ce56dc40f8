use Rattle.std.proofs.Common.{◌≡◌, ◌<◌, ◌^◌, drop, Some}
use Rattle.can_frame.specs.Numbers.{number_after}
use Rattle.can_frame.proofs.numbers.read_number.Given as goal

abbrev pub invariant-loop-byte : goal.invariant-loop-byte
invariant-loop-byte g l = record {
  same : number_after g.row.BASE (Some 0) l.word ≡ number_after g.row.BASE (Some l.number) (drop l.byte-index l.word);
  small : l.number < g.row.BASE ^ l.byte-index;
}
