use Rattle.std.proofs.Common.{◌≡◌, ◌++◌, ℕ, ◌-◌, List, length}
use Rattle.can_session.specs.Benches.{AreTried}
use Rattle.can_session.proofs.bench_state.Bench.make_due.Given as goal

abbrev pub invariant-loop-moment : goal.invariant-loop-moment
invariant-loop-moment g l =
    (count : ℕ) × (text : List ℕ) × AreTried (g.F.FaultSource.verdicts l.fn.script) l.fn.moment count l.fn.self text l.self
    × (l.said.items ≡ l.fn.said.items ++ text) × (g.F.FaultSource.verdicts l.script ≡ g.F.FaultSource.verdicts l.fn.script)

abbrev pub decreases-loop-moment : goal.decreases-loop-moment
decreases-loop-moment g l = l.self.bus.journal.config.limit - length l.self.bus.journal.history
