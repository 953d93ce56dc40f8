use Rattle.std.proofs.Common.{sym, subst}
use Rattle.can_station.specs.Held.{Held}
use Rattle.can_station.specs.Passes.{IsStateOf}
use Rattle.can_station.proofs.station.Station.inject.Goals as goal

pub returns : goal.returns
returns g c =
    let state = subst (λ (h : Held g.row.F.Denot). IsStateOf c.args.self.now h) (sym c.deref_mut.ensures.value) c.hold.ensures in
    (c.deref_mut.result.now, state, (c.inject.new.self.plan, c.inject.ensures.injected))
