use Rattle.std.proofs.Common.{Some, ℕ, sym, ap, subst, ◌∙◌}
use Rattle.can_event.specs.declared.event.Event.TheVariants as event
use Rattle.can_event.specs.Replies.{taken_reply}
use Rattle.can_station.specs.Passes.{Called}
use Rattle.can_hub.specs.PassSteps.{EnteredSeen}
use Rattle.can_hub.proofs.Passing.{received}
use Rattle.can_hub.proofs.locked_port.LockedPortPort.receive_into.Goals as goal

pub returns : goal.returns
returns g c =
    let now : EnteredSeen = record { station = c.entered.inside.station.now; gauge = c.entered.inside.gauge; pass = c.entered.inside.pass } in
    let room = c.receive_into.new.room in
    received g.row.F.Denot c.args.self.now c.port.inside.buses.now c.port.inside.entered now c.receive_into.new.pass c.args.socket room c.receive_into.result c.pass_on.result
    (c.port.view_is ∙ c.self.view_is) (c.in-Some.is ∙ ap Some (sym c.entered.view_is)) c.pass_on.ensures
    (subst (λ (n : ℕ). Called (taken_reply room) n now.pass (event.Receive c.args.socket) c.receive_into.result c.receive_into.new.pass) c.hold_of-hold.ensures c.receive_into.ensures.called)
