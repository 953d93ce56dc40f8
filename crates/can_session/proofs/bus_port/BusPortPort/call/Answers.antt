use Rattle.std.proofs.Common.{Ok, refl, subst}
use Rattle.can_dialog.specs.Calls.{Steps}
use Rattle.can_session.specs.BusSteps.{NamedBus, BusStep}
use Rattle.can_session.proofs.BusCalls.{gives}
use Rattle.can_session.proofs.bus_port.BusPortPort.call.Goals as goal

pub returns : goal.returns
returns g c =
    let before : NamedBus = record { names = c.self.inside.names; journal = c.self.inside.bus; plan = c.self.inside.plan; schedule = c.self.inside.schedule } in
    let after : NamedBus = record { names = c.self.inside.names; journal = c.answer.new.self; plan = c.self.inside.plan; schedule = c.self.inside.schedule } in
    subst (λ (o : NamedBus). Steps BusStep o c.args.event (Ok c.answer.result) after) c.self.view_is
    (gives before after refl refl refl c.args.event c.answer.result c.answer.ensures.answer c.answer.ensures.after)
