use Rattle.std.proofs.Common.{◌≡◌, ◌++◌}
use Rattle.std.specs.List.{flat_map, range_with_len}
use Rattle.can_replay.specs.Words.{parted}
use Rattle.can_replay.specs.inner.Seen.{told_dropped_at}
use Rattle.can_replay.proofs.parts.put_all_dropped.Given as goal

abbrev pub invariant-loop-place : goal.invariant-loop-place
invariant-loop-place l = l.out.items ≡ l.initial.out.items ++ parted (flat_map (told_dropped_at l.before l.state.sockets) (range_with_len 0 l.place))
