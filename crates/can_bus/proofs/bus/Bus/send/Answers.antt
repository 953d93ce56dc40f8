use Rattle.std.proofs.Common.{refl, subst}
use Rattle.can_event.specs.declared.event.Event.TheVariants as event
use Rattle.can_event.specs.declared.reply.Reply.TheVariants as reply
use Rattle.can_bus.specs.State.{Parts}
use Rattle.can_bus.specs.Changes.{Sends, pending_of}
use Rattle.can_bus.proofs.Bounds.{small_sent, small_refused, known_ifaces}
use Rattle.can_bus.proofs.Keeping.{IsDone, done}
use Rattle.can_bus.proofs.Narrow.{legal_fits}
use Rattle.can_bus.proofs.Sending.{sent_follows}
use Rattle.can_bus.proofs.bus.Bus.send.Given as given
use Rattle.can_bus.proofs.bus.Bus.send.Goals as goal
use Rattle.can_bus.proofs.bus.Bus.send.Goals.{After-push_send}

pub send-outcome-requires : goal.send-outcome-requires
send-outcome-requires g c = record { sent = small_sent _ _ c.self.invariant; refused = small_refused _ _ c.self.invariant; known = known_ifaces _ _ c.self.invariant }

pub push_send-requires-clause-fits : goal.push_send-requires-clause-fits
push_send-requires-clause-fits g c =
    let sends = subst (λ (p : Parts). Sends p c.args.id.0 (pending_of c.args.frame c.args.id) c.send-outcome.result c.send-outcome.new.self) c.self.invariant.of_parts c.send-outcome.ensures in
    legal_fits c.self.inside.record c.self.inside.state (event.Send c.args.id c.args.frame) _ c.self.invariant (λ none. none) ((sent_follows _ _ c.args.id c.args.frame _ _ c.self.invariant.proper c.self.invariant.legal sends).lawful)

is_done : (g : given.Over) (c : After-push_send g) → IsDone reply.Sent c.args.self.now (event.Send c.args.id c.args.frame) c.send-outcome.result c.push_send.new.self c.send-outcome.new.self
is_done g c =
    done reply.Sent (λ (p : Parts). Sends p c.args.id.0 (pending_of c.args.frame c.args.id) c.send-outcome.result c.send-outcome.new.self)
    c.self.view_is c.self.invariant c.is_full.ensures c.if-is_full.false c.send-outcome.ensures refl c.push_send.ensures
    (sent_follows _ _ c.args.id c.args.frame _ _ c.self.invariant.proper c.self.invariant.legal)

pub invariant_of-self : goal.invariant_of-self
invariant_of-self g c = (is_done g c).kept

pub returns : goal.returns
returns g c = (is_done g c).answers
