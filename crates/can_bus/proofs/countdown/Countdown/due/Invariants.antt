use Rattle.std.proofs.Common.{◌≡◌, ◌==◌, slice_index_or}
use Rattle.can_frame.specs.Sets.{bits_where}
use Rattle.can_bus.proofs.countdown.Countdown.due.Given as goal

abbrev pub invariant-loop-place : goal.invariant-loop-place
invariant-loop-place l = l.due.0 ≡ bits_where (λ i. slice_index_or l.self i 0 == 1) l.place
