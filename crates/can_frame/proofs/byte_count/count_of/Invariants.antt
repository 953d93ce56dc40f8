use Rattle.std.proofs.Common.{◌≡◌, ◌==◌, ◌+◌, length, count_by}
use Rattle.can_frame.proofs.byte_count.count_of.Given as goal

abbrev pub invariant-loop-rest : goal.invariant-loop-rest
invariant-loop-rest l = l.count + count_by (λ b. b == l.mark) l.rest ≡ count_by (λ b. b == l.mark) l.text

abbrev pub decreases-loop-rest : goal.decreases-loop-rest
decreases-loop-rest l = length l.rest
