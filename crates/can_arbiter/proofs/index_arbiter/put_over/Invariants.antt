use Rattle.std.proofs.Common.{length, ◌-◌, ◌≡◌, ◌<◌, ◌≤◌, get_or}
use Rattle.std.specs.List.{insert, remove}
use Rattle.can_arbiter.proofs.index_arbiter.put_over.Given as goal

abbrev pub invariant-loop-at : goal.invariant-loop-at
invariant-loop-at l = record {
  within : l.at ≤ length (remove l.fn.row l.fn.place);
  put : l.row ≡ insert (remove l.fn.row l.fn.place) l.at l.rank;
  rank : l.rank ≡ l.fn.rank;
}

abbrev pub decreases-loop-at : goal.decreases-loop-at
decreases-loop-at l = l.at

abbrev pub invariant-loop-at-2 : goal.invariant-loop-at-2
invariant-loop-at-2 l = record {
  within : l.at ≤ length (remove l.fn.row l.fn.place);
  put : l.row ≡ insert (remove l.fn.row l.fn.place) l.at l.rank;
  rank : l.rank ≡ l.fn.rank;
  below : 0 < l.at → get_or (remove l.fn.row l.fn.place) (l.at - 1) 0 < l.rank;
}

abbrev pub decreases-loop-at-2 : goal.decreases-loop-at-2
decreases-loop-at-2 l = length l.initial.row - l.at
