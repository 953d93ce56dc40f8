use Rattle.std.proofs.Common.{refl}
use Rattle.can_hub.proofs.Passing.{attached, some_named, some_named_full}
use Rattle.can_hub.proofs.pass_port.PassPortPort.attach.Goals as goal

pub returns : goal.returns
returns g c =
    attached c.args.self.now c.self.inside.buses.now c.self.inside.entered c.args.name.now c.in-Some.found c.self.view_is c.in-Some.ensures
    g.row.F.Denot c.station-station.result.now c.in-Ok.gauge c.in-Ok-enter.pass c.station-station.ensures.number c.station-station.ensures.config c.in-Ok.ensures c.in-Ok-enter.ensures.ok

pub returns-in_default-gauge : goal.returns-in_default-gauge
returns-in_default-gauge g c = (some_named c.args.self.now c.self.inside.buses.now c.self.inside.entered c.args.name.now c.in-Some.found c.self.view_is c.in-Some.ensures, refl)

pub returns-in_default-enter : goal.returns-in_default-enter
returns-in_default-enter g c = (
  some_named_full c.args.self.now c.self.inside.buses.now c.self.inside.entered c.args.name.now c.in-Some.found c.self.view_is c.in-Some.ensures
      g.row.F.Denot c.station-station.result.now c.station-station.ensures.number c.station-station.ensures.config c.in_default-enter.ensures.err,
  refl,
)
