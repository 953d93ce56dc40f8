use Rattle.std.proofs.Common.{◌≡◌}
use Rattle.can_station.specs.Waits.{has_work}
use Rattle.can_server.specs.Timed.{MakesAll}
use Rattle.can_server.proofs.server.Server.step_all_due.Given as goal

-- the driver made this many attempts, and `has_more` is up to date
abbrev pub invariant-loop-count : goal.invariant-loop-count
invariant-loop-count g l =
    MakesAll g.F.FaultSource.verdicts l.count
    (record { held = l.fn.hold; pass = l.fn.pass; schedule = l.fn.timed.schedule })
    (record { held = l.hold; pass = l.pass; schedule = l.timed.schedule })
    × (l.timed.has_more ≡ has_work l.hold.journal)
