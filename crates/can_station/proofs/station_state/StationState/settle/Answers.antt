use Rattle.std.proofs.Common.{subst}
use Rattle.can_station.specs.Held.{Held}
use Rattle.can_station.specs.Published.{TakesBack}
use Rattle.can_station.proofs.station_state.StationState.settle.Goals as goal

pub returns-clause-refused : goal.returns-clause-refused
returns-clause-refused g c = subst (λ (h : Held g.row.F.Denot). TakesBack h.number c.args.passes.items c.args.gauges.items c.settle_bus.result) c.self.view_is c.settle_bus.ensures.refused
