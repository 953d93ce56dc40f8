use Rattle.std.proofs.Common.{◌≡◌, ◌≤◌, ◌==◌, take}
use Rattle.std.specs.List.{count_by}
use Rattle.can_frame.proofs.byte_count.count_in_block.Given as goal

abbrev pub invariant-loop-byte : goal.invariant-loop-byte
invariant-loop-byte l = record {
  same : l.count ≡ count_by (λ b. b == l.mark) (take l.byte-index l.block);
  few : l.count ≤ l.byte-index;
}
