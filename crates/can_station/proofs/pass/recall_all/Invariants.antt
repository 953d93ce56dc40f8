use Rattle.std.proofs.Common.{◌≡◌, ◌++◌, length}
use Rattle.std.specs.Vec.Iter.{into_iter_items, into_iter_len}
use Rattle.can_roll.specs.Lists.{Distinct, AllBelow}
use Rattle.can_roll.specs.Seen.{roll_seen}
use Rattle.can_station.specs.Passes.{AllMatch, numbers_of}
use Rattle.can_station.proofs.pass.recall_all.Given as goal

abbrev pub invariant-loop-pass : goal.invariant-loop-pass
invariant-loop-pass g l =
    (l.yielded ++ into_iter_items l.pass-iterator ≡ into_iter_items l.initial.pass-iterator)
    × (into_iter_len l.pass-iterator ≡ length (into_iter_items l.pass-iterator))
    × (l.roll ≡ roll_seen l.initial.roll.number l.initial.roll.lists (numbers_of l.yielded))
    × AllMatch l.initial.roll.lists l.yielded × Distinct (numbers_of l.yielded) × AllBelow (length l.initial.roll.lists) (numbers_of l.yielded)
