use Rattle.std.proofs.Common.{◌≡◌, Some, refl, sym, ap, ◌∙◌}
use Rattle.can_hub.specs.PassSteps.{EnteredSeen}
use Rattle.can_hub.proofs.Passing.{counted}
use Rattle.can_hub.proofs.pass_port.PassPortPort.iface_stats.Goals as goal

pub returns : goal.returns
returns g c =
    let now : EnteredSeen = record { station = c.entered.inside.station.now; gauge = c.entered.inside.gauge; pass = c.entered.inside.pass } in
    let is : c.self.inside.entered ≡ Some now = sym c.in_ok-entered.ensures.value ∙ ap Some (sym c.entered.view_is) in
    ((counted g.row.F.Denot c.args.self.now c.self.inside.buses.now c.self.inside.entered now 0 c.args.iface c.stats.result c.self.view_is is c.stats.ensures).1, refl)
