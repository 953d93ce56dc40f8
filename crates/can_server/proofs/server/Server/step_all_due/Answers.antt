use Rattle.std.proofs.Common.{◌≡◌, true, sym, ◌∙◌}
use Rattle.can_server.specs.Timed.{Driven}
use Rattle.can_server.proofs.Attempting.{makes_more, makes_last}
use Rattle.can_server.proofs.server.Server.step_all_due.Goals as goal

pub returns-in_default : goal.returns-in_default
returns-in_default g c =
    let mid : Driven g.row.F.Denot = record { held = c.loop-count.hold; pass = c.loop-count.pass; schedule = c.loop-count.timed.schedule } in
    (c.loop-count.count, mid, c.loop-count-test.true, c.loop-count.invariant.0, (c.in_default.field-0, c.in_default.ensures.made, c.in_default.ensures.stays))

pub returns-then-are_some : goal.returns-then-are_some
returns-then-are_some g c =
    let mid : Driven g.row.F.Denot = record { held = c.loop-count.hold; pass = c.loop-count.pass; schedule = c.loop-count.timed.schedule } in
    makes_last g.F.FaultSource.verdicts c.loop-count.count _ mid _ c.loop-count.invariant.0
    (c.in-Ok.attempt, sym c.loop-count.invariant.1 ∙ c.if-not-timed.false, c.in-Ok.ensures.made, c.in-Ok.ensures.goes_by) c.loop-count-test.true

pub returns-then-is_ending-2 : goal.returns-then-is_ending-2
returns-then-is_ending-2 g c =
    let mid : Driven g.row.F.Denot = record { held = c.loop-count.hold; pass = c.loop-count.pass; schedule = c.loop-count.timed.schedule } in
    makes_last g.F.FaultSource.verdicts c.loop-count.count _ mid _ c.loop-count.invariant.0
    (c.in-Ok.attempt, sym c.loop-count.invariant.1 ∙ c.if-not-timed.false, c.in-Ok.ensures.made, c.in-Ok.ensures.goes_by) c.loop-count-test.true

pub loop-count-preserved : goal.loop-count-preserved
loop-count-preserved g c =
    let mid : Driven g.row.F.Denot = record { held = c.loop-count.hold; pass = c.loop-count.pass; schedule = c.loop-count.timed.schedule } in (
      makes_more g.F.FaultSource.verdicts c.loop-count.count _ mid _ c.loop-count.invariant.0
          (c.in-Ok.attempt, sym c.loop-count.invariant.1 ∙ c.if-not-timed.false, c.in-Ok.ensures.made, c.in-Ok.ensures.goes_by),
      c.has_work-timed-in-loop-count.ensures,
    )
