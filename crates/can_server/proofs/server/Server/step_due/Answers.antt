use Rattle.std.proofs.Common.{subst}
use Rattle.can_wire.specs.Schedules.{Schedule}
use Rattle.can_server.specs.Timed.{Driven, MakesDue}
use Rattle.can_server.proofs.server.Server.step_due.Goals as goal

pub returns : goal.returns
returns g c =
    let last : Driven g.row.F.Denot = record { held = c.step_all_due.new.hold; pass = c.step_all_due.new.pass; schedule = c.step_all_due.new.timed.schedule } in (
      c.step_all_due.new.hold,
      subst (λ (s : Schedule). MakesDue g.F.FaultSource.verdicts c.step_all_due.result (record { held = c.args.hold; pass = c.args.pass.now; schedule = s }) last) c.catch_up.ensures.schedule c.step_all_due.ensures,
    )
