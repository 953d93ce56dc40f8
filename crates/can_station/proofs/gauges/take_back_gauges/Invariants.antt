use Rattle.std.proofs.Common.{◌≡◌, ◌++◌, length}
use Rattle.std.specs.Vec.Iter.{into_iter_items, into_iter_len}
use Rattle.can_station.specs.Published.{AllSeen}
use Rattle.can_station.proofs.gauges.take_back_gauges.Given as goal

abbrev pub invariant-loop-gauge : goal.invariant-loop-gauge
invariant-loop-gauge g l =
    (l.yielded ++ into_iter_items l.gauge-iterator ≡ into_iter_items l.initial.gauge-iterator)
    × (into_iter_len l.gauge-iterator ≡ length (into_iter_items l.gauge-iterator))
    × (l.keeper ≡ l.initial.keeper) × AllSeen l.yielded l.initial.keeper
