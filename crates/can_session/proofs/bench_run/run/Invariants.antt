use Rattle.std.proofs.Common.{◌≡◌, ℕ, ◌+◌, ◌-◌, ◌≤◌, List, length, None}
use Rattle.can_session.specs.Runs.{Ran}
use Rattle.can_session.proofs.Running.{AreOf}
use Rattle.can_session.proofs.bench_run.run.Given as goal

abbrev pub invariant-loop-number : goal.invariant-loop-number
invariant-loop-number g l =
    (lines : List (List ℕ)) × AreOf l.fn.lines.coming lines l.lines × (l.lines.fault ≡ None)
    × Ran g.W.Write.contents (g.F.FaultSource.verdicts l.fn.script) lines l.fn.state l.fn.out l.state l.out
    × (l.number ≡ length lines + 1) × (length lines ≤ l.lines.given) × (l.lines.given ≤ 16777216)
    × (g.F.FaultSource.verdicts l.script ≡ g.F.FaultSource.verdicts l.fn.script)

abbrev pub decreases-loop-number : goal.decreases-loop-number
decreases-loop-number g l = 16777216 - l.lines.given
