use Rattle.std.proofs.Common.{◌≡◌, ℕ, ◌<◌, ◌%◌, List, length, get_or, ltb, rules, subst}
use Rattle.std.specs.List.{remove}
use Rattle.std.proofs.lemmas.List.Sorted.{IsPartitionPoint-from_clause}
use Rattle.can_arbiter.specs.Ranks.{IsPutAmong}
use Rattle.can_arbiter.proofs.Ranking.{sets, has_room, order_put}
use Rattle.can_arbiter.proofs.Moving.{others_rise, moves_in, keeps_absent, belongs}
use Rattle.can_arbiter.proofs.index_arbiter.IndexArbiterArbiter.set.Goals as goal

pub put_over-requires-clause-in_order : goal.put_over-requires-clause-in_order
put_over-requires-clause-in_order c =
    let inside = subst (λ (row : List ℕ). c.in-Some.place < length row) c.deref.ensures.0 c.in-Some.ensures.some.0 in
    let held = subst (λ (row : List ℕ). get_or row c.in-Some.place 0 % 16 ≡ c.args.iface) c.deref.ensures.0 c.in-Some.ensures.some.1 in
    rw c.deref_mut.ensures.value (others_rise c.args.self.now.row.items c.in-Some.place c.args.iface c.args.self.now.in_order inside held)

pub invariant_of-self : goal.invariant_of-self
invariant_of-self c =
    let inside = subst (λ (row : List ℕ). c.in-Some.place < length row) c.deref.ensures.0 c.in-Some.ensures.some.0 in
    let held = subst (λ (row : List ℕ). get_or row c.in-Some.place 0 % 16 ≡ c.args.iface) c.deref.ensures.0 c.in-Some.ensures.some.1 in
    let put = subst (λ (row : List ℕ). IsPutAmong (remove row c.in-Some.place) c.rank-rank.result c.put_over.new.row) c.deref_mut.ensures.value c.put_over.ensures in
    record { in_order = (moves_in c.args.self.now.row.items c.put_over.new.row c.args.iface c.args.key c.in-Some.place c.rank-rank.result (search rules) c.rank-rank.ensures c.args.self.now.in_order inside held put).1 }

pub returns-in-Some : goal.returns-in-Some
returns-in-Some c =
    let inside = subst (λ (row : List ℕ). c.in-Some.place < length row) c.deref.ensures.0 c.in-Some.ensures.some.0 in
    let held = subst (λ (row : List ℕ). get_or row c.in-Some.place 0 % 16 ≡ c.args.iface) c.deref.ensures.0 c.in-Some.ensures.some.1 in
    let put = subst (λ (row : List ℕ). IsPutAmong (remove row c.in-Some.place) c.rank-rank.result c.put_over.new.row) c.deref_mut.ensures.value c.put_over.ensures in
    (moves_in c.args.self.now.row.items c.put_over.new.row c.args.iface c.args.key c.in-Some.place c.rank-rank.result (search rules) c.rank-rank.ensures c.args.self.now.in_order inside held put).0

pub insert-requires : goal.insert-requires
insert-requires c =
    let row = c.args.self.now.row.items in
    let there = belongs c.deref-in-None.result.now row c.rank-rank.result c.partition_point-place.result c.args.self.now.in_order c.deref-in-None.ensures.0 c.partition_point-place.ensures.bound
    (λ parted. IsPartitionPoint-from_clause (λ other. ltb other c.rank-rank.result) _ _ c.partition_point-place.ensures.partitioned parted (λ a r f k. search rules)) in
    let absent = keeps_absent row c.args.iface (search rules) (search rules) in
    let room = has_room row row c.args.iface c.args.key c.partition_point-place.result c.rank-rank.result (search rules) c.rank-rank.ensures absent c.args.self.now.in_order there.0 there.1 in
    search rules

pub invariant_of-self-in-None : goal.invariant_of-self-in-None
invariant_of-self-in-None c =
    let row = c.args.self.now.row.items in
    let there = belongs c.deref-in-None.result.now row c.rank-rank.result c.partition_point-place.result c.args.self.now.in_order c.deref-in-None.ensures.0 c.partition_point-place.ensures.bound
    (λ parted. IsPartitionPoint-from_clause (λ other. ltb other c.rank-rank.result) _ _ c.partition_point-place.ensures.partitioned parted (λ a r f k. search rules)) in
    let absent = keeps_absent row c.args.iface (search rules) (search rules) in
    record { in_order = order_put row row c.insert.new.self.items c.args.iface c.args.key c.partition_point-place.result c.rank-rank.result (search rules) c.rank-rank.ensures absent c.insert.ensures.items c.args.self.now.in_order there.0 there.1 }

pub returns-in-None : goal.returns-in-None
returns-in-None c =
    let row = c.args.self.now.row.items in
    let absent = keeps_absent row c.args.iface (search rules) (search rules) in
    sets row row c.insert.new.self.items c.args.iface c.args.key c.partition_point-place.result c.rank-rank.result (search rules) c.rank-rank.ensures absent c.insert.ensures.items
