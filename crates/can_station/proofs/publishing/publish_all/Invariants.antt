use Rattle.std.proofs.Common.{◌≡◌, ◌<◌, ◌≤◌, ℕ}
use Rattle.can_meter.specs.Publications.{published}
use Rattle.can_station.specs.Published.{published_after, counters_at}
use Rattle.can_station.proofs.publishing.publish_all.Given as goal

abbrev pub invariant-loop-place : goal.invariant-loop-place
invariant-loop-place g l =
    (l.keeper.number ≡ l.initial.keeper.number) × (l.keeper.ifaces ≡ l.initial.keeper.ifaces)
    × ((i : ℕ) → i < l.place → published l.keeper.lists i ≡ published_after (counters_at l.before i) (counters_at l.after i) l.at (published l.initial.keeper.lists i))
    × ((i : ℕ) → l.place ≤ i → published l.keeper.lists i ≡ published l.initial.keeper.lists i)
