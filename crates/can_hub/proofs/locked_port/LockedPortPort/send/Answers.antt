use Rattle.std.proofs.Common.{Some, ℕ, sym, ap, subst, ◌∙◌}
use Rattle.can_event.specs.declared.event.Event.TheVariants as event
use Rattle.can_event.specs.declared.reply.Reply.TheVariants as reply
use Rattle.can_station.specs.Passes.{Called}
use Rattle.can_hub.specs.PassSteps.{EnteredSeen}
use Rattle.can_hub.proofs.Passing.{sent}
use Rattle.can_hub.proofs.locked_port.LockedPortPort.send.Goals as goal

pub returns : goal.returns
returns g c =
    let now : EnteredSeen = record { station = c.entered.inside.station.now; gauge = c.entered.inside.gauge; pass = c.entered.inside.pass } in
    sent g.row.F.Denot c.args.self.now c.port.inside.buses.now c.port.inside.entered now c.send-outcome.new.pass c.args.socket c.args.frame c.send-outcome.result c.pass_on.result
    (c.port.view_is ∙ c.self.view_is) (c.in-Some.is ∙ ap Some (sym c.entered.view_is)) c.pass_on.ensures
    (subst (λ (n : ℕ). Called reply.Sent n now.pass (event.Send c.args.socket c.args.frame) c.send-outcome.result c.send-outcome.new.pass) c.hold_of-hold.ensures c.send-outcome.ensures.called)
