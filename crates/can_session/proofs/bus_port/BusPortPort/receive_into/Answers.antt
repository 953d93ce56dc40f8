use Rattle.std.proofs.Common.{Bool, Result, refl, sym, subst}
use Rattle.can_event.specs.Replies.{received_into}
use Rattle.can_session.specs.BusSteps.{BusStep, NamedBus, passed_on}
use Rattle.can_dialog.specs.Calls.Call.{Receive}
use Rattle.can_dialog.specs.declared.port.PortRefusal.{PortRefusal}
use Rattle.can_session.proofs.BusCalls.{receives_into}
use Rattle.can_session.proofs.bus_port.BusPortPort.receive_into.Goals as goal

pub returns : goal.returns
returns g c =
    let old : NamedBus = record { names = c.self.inside.names; journal = c.self.inside.bus; plan = c.self.inside.plan; schedule = c.self.inside.schedule } in
    let new : NamedBus = record { names = c.self.inside.names; journal = c.receive_into.new.self; plan = c.self.inside.plan; schedule = c.self.inside.schedule } in
    let room = c.receive_into.new.room in
    subst (λ (r : Result Bool PortRefusal). BusStep c.args.self.now (Receive c.args.socket) (received_into room r) new) (sym c.pass_on.ensures)
    (subst (λ (o : NamedBus). BusStep o (Receive c.args.socket) (received_into room (passed_on c.receive_into.result)) new) c.self.view_is
    (receives_into old new c.args.socket room c.receive_into.result c.receive_into.ensures.answer refl refl refl))
