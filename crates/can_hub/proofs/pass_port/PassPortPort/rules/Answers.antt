use Rattle.std.proofs.Common.{Some, refl, sym, ap, ◌∙◌}
use Rattle.can_hub.specs.PassSteps.{EnteredSeen}
use Rattle.can_hub.proofs.Passing.{rules_left}
use Rattle.can_hub.proofs.pass_port.PassPortPort.rules.Goals as goal

pub returns : goal.returns
returns g c =
    let now : EnteredSeen = record { station = c.entered.inside.station.now; gauge = c.entered.inside.gauge; pass = c.entered.inside.pass } in
    (rules_left g.row.F.Denot c.args.self.now c.self.inside.buses.now c.self.inside.entered now c.rules.result c.self.view_is (c.in-Some.is ∙ ap Some (sym c.entered.view_is)) c.rules.ensures.rules, refl)
