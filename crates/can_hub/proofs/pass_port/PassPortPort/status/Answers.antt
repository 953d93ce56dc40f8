use Rattle.std.proofs.Common.{Some, sym, ap, ◌∙◌}
use Rattle.can_hub.specs.PassSteps.{EnteredSeen}
use Rattle.can_hub.proofs.Passing.{on_gauge}
use Rattle.can_hub.proofs.pass_port.PassPortPort.status.Goals as goal

pub returns : goal.returns
returns g c =
    let now : EnteredSeen = record { station = c.entered.inside.station.now; gauge = c.entered.inside.gauge; pass = c.entered.inside.pass } in
    on_gauge c.args.self.now c.self.inside.buses.now c.self.inside.entered now c.read_gauge.new.gauge c.args.iface c.read_gauge.result
    c.self.view_is (c.in-Some.is ∙ ap Some (sym c.entered.view_is)) c.read_gauge.ensures
