use Rattle.std.proofs.Common.{◌≡◌, reverse}
use Rattle.can_frame.specs.Sets.{bits_where}
use Rattle.can_audit.proofs.Restarting.{is_due_at}
use Rattle.can_audit.proofs.restarts.restarted_next.Given as goal

abbrev pub invariant-loop-place : goal.invariant-loop-place
invariant-loop-place l = l.restarted.0 ≡ bits_where (is_due_at l.config (reverse l.past)) l.place
