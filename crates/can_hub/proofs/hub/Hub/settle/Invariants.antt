use Rattle.std.proofs.Common.{◌≡◌, ◌≤◌, ◌+◌, ◌++◌, All, List, length, vec_capacity}
use Rattle.std.specs.Vec.Iter.{into_iter_items, into_iter_len}
use Rattle.can_hub.specs.Buses.{BusSeen, NumberedFrom}
use Rattle.can_hub.specs.Settling.{AllConfigured, AllOwn, AllSettleIn}
use Rattle.can_hub.proofs.hub.Hub.settle.Given as goal

abbrev pub invariant-loop-network : goal.invariant-loop-network
invariant-loop-network g l = (before : List _) × (gone : List BusSeen) × record {
  buses : gone ++ into_iter_items l.network-iterator ≡ l.fn.self;
  configured : AllConfigured g.L.Leaves.journal gone l.settled.items;
  limited : All (λ (b : BusSeen). g.L.Leaves.limits b.config) (into_iter_items l.network-iterator);
  lists : before ++ into_iter_items l.lists ≡ l.fn.passes.items;
  own : AllOwn 0 before;
  settled : AllSettleIn g.L.Leaves.journal before l.settled.items;
  place : length before ≡ length l.settled.items;
  numbered : NumberedFrom (length l.settled.items) (into_iter_items l.network-iterator);
  networks : into_iter_len l.network-iterator ≡ length (into_iter_items l.network-iterator);
  passes : into_iter_len l.lists ≡ length (into_iter_items l.lists);
  same : into_iter_len l.network-iterator ≡ into_iter_len l.lists;
  room : length l.settled.items + into_iter_len l.network-iterator ≤ vec_capacity l.settled;
}
