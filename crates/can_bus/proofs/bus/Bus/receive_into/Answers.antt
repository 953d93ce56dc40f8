use Rattle.std.proofs.Common.{refl, subst}
use Rattle.can_event.specs.Replies.{receive_reply, taken_reply}
use Rattle.can_event.specs.declared.event.Event.TheVariants as event
use Rattle.can_bus.specs.State.{Parts}
use Rattle.can_bus.specs.Changes.{Receives}
use Rattle.can_bus.proofs.Bounds.{small_taken}
use Rattle.can_bus.proofs.Fitting.{legal_has_line}
use Rattle.can_bus.proofs.Keeping.{IsDone, done}
use Rattle.can_bus.proofs.Narrow.{legal_fits}
use Rattle.can_bus.proofs.Receiving.{received_follows}
use Rattle.can_bus.proofs.bus.Bus.receive_into.Given as given
use Rattle.can_bus.proofs.bus.Bus.receive_into.Goals as goal
use Rattle.can_bus.proofs.bus.Bus.receive_into.Goals.{After-push_receive}

pub receive_into-outcome-requires : goal.receive_into-outcome-requires
receive_into-outcome-requires g c = small_taken _ _ c.self.invariant

pub push_receive-requires-clause-spelled : goal.push_receive-requires-clause-spelled
push_receive-requires-clause-spelled g c =
    let receives = subst (λ (p : Parts). Receives p c.args.id.0 (receive_reply c.receive_into-outcome.new.room c.receive_into-outcome.result) c.receive_into-outcome.new.self) c.self.invariant.of_parts c.receive_into-outcome.ensures.receives in
    legal_has_line c.self.inside.record.config c.self.inside.record.history (event.Receive c.args.id) _ (received_follows _ _ c.args.id _ _ receives).lawful

pub push_receive-requires-clause-fits : goal.push_receive-requires-clause-fits
push_receive-requires-clause-fits g c =
    let receives = subst (λ (p : Parts). Receives p c.args.id.0 (receive_reply c.receive_into-outcome.new.room c.receive_into-outcome.result) c.receive_into-outcome.new.self) c.self.invariant.of_parts c.receive_into-outcome.ensures.receives in
    legal_fits c.self.inside.record c.self.inside.state (event.Receive c.args.id) _ c.self.invariant (λ none. none) (received_follows _ _ c.args.id _ _ receives).lawful

is_done : (g : given.Over) (c : After-push_receive g) → IsDone (taken_reply c.receive_into-outcome.new.room) c.args.self.now (event.Receive c.args.id) c.receive_into-outcome.result c.push_receive.new.self c.receive_into-outcome.new.self
is_done g c =
    done (taken_reply c.receive_into-outcome.new.room) (λ (p : Parts). Receives p c.args.id.0 (receive_reply c.receive_into-outcome.new.room c.receive_into-outcome.result) c.receive_into-outcome.new.self)
    c.self.view_is c.self.invariant c.is_full.ensures c.if-is_full.false c.receive_into-outcome.ensures.receives refl c.push_receive.ensures
    (received_follows _ _ c.args.id _ _)

pub invariant_of-self : goal.invariant_of-self
invariant_of-self g c = (is_done g c).kept

pub returns-clause-answer : goal.returns-clause-answer
returns-clause-answer g c = (is_done g c).answers
