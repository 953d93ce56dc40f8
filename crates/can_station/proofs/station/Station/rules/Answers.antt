use Rattle.std.proofs.Common.{sym, subst}
use Rattle.can_station.specs.Held.{Held}
use Rattle.can_station.specs.Passes.{IsStateOf}
use Rattle.can_station.proofs.station.Station.rules.Goals as goal

pub returns-clause-rules : goal.returns-clause-rules
returns-clause-rules g c = (c.deref.result.now, subst (λ (h : Held g.row.F.Denot). IsStateOf c.args.self.now h) (sym c.deref.ensures) c.hold.ensures, c.rules.ensures.rules)
