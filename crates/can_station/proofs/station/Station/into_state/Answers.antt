use Rattle.std.proofs.Common.{rules, subst}
use Rattle.can_station.specs.Held.{StationSeen}
use Rattle.can_station.specs.Passes.{IsStateOf}
use Rattle.can_station.proofs.station.Station.into_state.Goals as goal

pub returns-then-is_of : goal.returns-then-is_of
returns-then-is_of g c = subst (λ (s : StationSeen). IsStateOf s c.into_inner-state.result) c.self.view_is (c.is_of.ensures (search (rules, c.if-is_of.true)))
