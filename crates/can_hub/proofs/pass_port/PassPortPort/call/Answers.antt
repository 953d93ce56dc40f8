use Rattle.std.proofs.Common.{Some, sym, ap, subst, ◌∙◌}
use Rattle.std.specs.Prelude.{IfOk}
use Rattle.can_event.specs.declared.event.Event.{Event}
use Rattle.can_station.specs.Passes.{Called, Suits, same}
use Rattle.can_hub.specs.PassSteps.{EnteredSeen}
use Rattle.can_hub.proofs.Passing.{on_pass}
use Rattle.can_hub.proofs.pass_port.PassPortPort.call.Goals as goal

pub returns : goal.returns
returns g c =
    let now : EnteredSeen = record { station = c.entered.inside.station.now; gauge = c.entered.inside.gauge; pass = c.entered.inside.pass } in
    on_pass g.row.F.Denot c.args.self.now c.self.inside.buses.now c.self.inside.entered now c.call-outcome.new.pass c.args.event c.rx_capacity-room.result c.call-outcome.result c.pass_on.result
    c.self.view_is (c.in-Some.is ∙ ap Some (sym c.entered.view_is)) (cc (c.rx_capacity-room.ensures, c.from.ensures, c.number.ensures)) c.pass_on.ensures
    (subst (λ (e : Event). Called same now.station.number now.pass e c.call-outcome.result c.call-outcome.new.pass) c.sized.ensures c.call-outcome.ensures.called)
    (subst (λ (e : Event). IfOk c.call-outcome.result (λ r. Suits e r)) c.sized.ensures c.call-outcome.ensures.suits)
