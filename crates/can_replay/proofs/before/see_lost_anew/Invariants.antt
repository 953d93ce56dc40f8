use Rattle.std.proofs.Common.{◌≡◌, map, take}
use Rattle.can_bus.specs.Stats.{lost_of}
use Rattle.can_replay.proofs.before.see_lost_anew.Given as goal

abbrev pub invariant-loop-i : goal.invariant-loop-i
invariant-loop-i l = l.lost.items ≡ take l.i (map lost_of l.state.interfaces)
