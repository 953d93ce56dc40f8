use Rattle.can_station.proofs.station_state.StationState.count.Goals as goal

pub returns-clause-marked : goal.returns-clause-marked
returns-clause-marked g c = (c.self.invariant.0.marks, rw (← c.self.view_is) c.self.invariant.0.marked)
