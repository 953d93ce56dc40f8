use Rattle.std.proofs.Common.{◌≡◌, ◌≤◌}
use Rattle.std.specs.List.{flat_map, range_with_len}
use Rattle.can_replay.specs.inner.Seen.{told_dropped_at, told_put_at}
use Rattle.can_replay.proofs.changed.last_changed.Given as goal

abbrev pub invariant-loop-place : goal.invariant-loop-place
invariant-loop-place l = record {
  queued : flat_map (told_put_at l.before l.state.sockets) (range_with_len 0 l.queued) ≡ flat_map (told_put_at l.before l.state.sockets) (range_with_len 0 l.place);
  refused : flat_map (told_dropped_at l.before l.state.sockets) (range_with_len 0 l.refused) ≡ flat_map (told_dropped_at l.before l.state.sockets) (range_with_len 0 l.place);
  queued_end : l.queued ≤ l.place;
  refused_end : l.refused ≤ l.place;
}
