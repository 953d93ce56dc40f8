use Rattle.std.proofs.Common.{◌≡◌, length, map, take}
use Rattle.can_bus.specs.Stats.{lost_of}
use Rattle.can_replay.proofs.before.see_lost_again.Given as goal

abbrev pub invariant-loop-i : goal.invariant-loop-i
invariant-loop-i l = record {
  same : take l.i l.lost ≡ take l.i (map lost_of l.state.interfaces);
  places : length l.lost ≡ length l.state.interfaces;
}
