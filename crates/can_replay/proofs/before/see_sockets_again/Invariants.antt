use Rattle.std.proofs.Common.{◌≡◌, length, map, take}
use Rattle.can_replay.specs.inner.Seen.{counts_in}
use Rattle.can_replay.proofs.before.see_sockets_again.Given as goal

abbrev pub invariant-loop-place : goal.invariant-loop-place
invariant-loop-place l = record {
  same : take l.place l.sockets ≡ take l.place (map counts_in l.state.sockets);
  places : length l.sockets ≡ length l.state.sockets;
}
