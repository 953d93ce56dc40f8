use Rattle.std.proofs.Common.{◌≡◌, ◌++◌}
use Rattle.std.specs.List.{flat_map, range_with_len}
use Rattle.can_replay.specs.inner.Seen.{told_lost_at}
use Rattle.can_replay.proofs.parts.put_all_lost.Given as goal

abbrev pub invariant-loop-i : goal.invariant-loop-i
invariant-loop-i l = l.out.items ≡ l.initial.out.items ++ flat_map (told_lost_at l.before l.state.interfaces) (range_with_len 0 l.i)
