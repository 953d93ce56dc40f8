use Rattle.std.proofs.Common.{◌≡◌, ◌≤◌, ◌+◌, ◌++◌, All, length, vec_capacity}
use Rattle.std.specs.Vec.Iter.{into_iter_items, into_iter_len}
use Rattle.can_hub.specs.Benches.{IsWithin, NamedFrom, buses_from}
use Rattle.can_hub.specs.Settling.{AreNewScrolls}
use Rattle.can_hub.proofs.buses.networks_of.Given as goal

abbrev pub invariant-loop-bench : goal.invariant-loop-bench
invariant-loop-bench g l = record {
  made : l.networks.items ++ buses_from (length l.networks.items) (into_iter_items l.bench-iterator) ≡ buses_from 0 l.fn.benches.items;
  named : NamedFrom g.N.RollName.roll g.N.MeterName.meter (length l.networks.items) (into_iter_items l.bench-iterator);
  proper : All (λ b. IsWithin g.L.Leaves.limits b) (into_iter_items l.bench-iterator);
  left : into_iter_len l.bench-iterator ≡ length (into_iter_items l.bench-iterator);
  count : length l.networks.items + into_iter_len l.bench-iterator ≡ length l.fn.benches.items;
  room : length l.fn.benches.items ≤ vec_capacity l.networks;
  few : length l.fn.benches.items ≤ 16;
  scrolls : AreNewScrolls 0 l.scrolls.items;
  same : length l.scrolls.items ≡ length l.networks.items;
  scroll_room : length l.fn.benches.items ≤ vec_capacity l.scrolls;
}
