use Rattle.std.proofs.Common.{◌≡◌, take, All}
use Rattle.can_confine.specs.Confinement.{at_start}
use Rattle.can_attempt.proofs.nodes.Nodes.are_at_start.Given as goal

abbrev pub invariant-loop-one : goal.invariant-loop-one
invariant-loop-one l = l.bits ≡ 0 → All (λ c. c ≡ at_start) (take l.one-index l.self.counters)
