use Rattle.std.proofs.Common.{◌≡◌, map, take}
use Rattle.can_replay.specs.inner.Seen.{counts_in}
use Rattle.can_replay.proofs.before.see_sockets_anew.Given as goal

abbrev pub invariant-loop-place : goal.invariant-loop-place
invariant-loop-place l = l.sockets.items ≡ take l.place (map counts_in l.state.sockets)
