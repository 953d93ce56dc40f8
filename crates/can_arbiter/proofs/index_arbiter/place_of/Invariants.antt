use Rattle.std.proofs.Common.{◌≡◌, ◌≢◌, ◌<◌, ◌%◌, ℕ, get_or}
use Rattle.can_arbiter.proofs.index_arbiter.place_of.Given as goal

abbrev pub invariant-loop-place : goal.invariant-loop-place
invariant-loop-place l = record {
  number : l.number ≡ l.fn.iface;
  apart : (k : ℕ) → k < l.place → get_or l.row k 0 % 16 ≢ l.fn.iface;
}
