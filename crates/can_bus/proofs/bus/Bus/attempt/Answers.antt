use Rattle.std.proofs.Common.{Ok, refl, subst}
use Rattle.can_event.specs.declared.reply.Reply.TheVariants as reply
use Rattle.can_bus.specs.Changes.{Attempts}
use Rattle.can_event.specs.declared.bus_config.BusConfig.{BusConfig}
use Rattle.can_event.specs.declared.event.Event.TheVariants as event
use Rattle.can_bus.specs.State.{Parts}
use Rattle.can_bus.proofs.Attempting.{attempt_follows, never_left, sixteen_nodes, ready, few_nodes}
use Rattle.can_bus.proofs.Bounds.{small_gone, small_done, small_dropped, small_tried}
use Rattle.can_bus.proofs.Fitting.{legal_has_line}
use Rattle.can_bus.proofs.Narrow.{legal_fits}
use Rattle.can_bus.proofs.Keeping.{IsDone, done}
use Rattle.can_bus.proofs.bus.Bus.attempt.Given as given
use Rattle.can_bus.proofs.bus.Bus.attempt.Goals as goal
use Rattle.can_bus.proofs.bus.Bus.attempt.Goals.{After-push_attempt}

pub attempt-attempt-requires : goal.attempt-attempt-requires
attempt-attempt-requires g c = record {
  few = few_nodes _ _ c.self.invariant;
  sixteen = sixteen_nodes _ _ c.self.invariant;
  ready = ready _ _ c.self.invariant;
  gone = small_gone _ _ c.self.invariant;
  done = small_done _ _ c.self.invariant;
  dropped = small_dropped _ _ c.self.invariant;
  tried = small_tried _ _ c.self.invariant;
  never = never_left _ _ _ c.self.invariant c.config-config.ensures.config;
}

pub push_attempt-requires-clause-spelled : goal.push_attempt-requires-clause-spelled
push_attempt-requires-clause-spelled g c =
    let j = c.self.inside.record in
    let here = subst (λ (k : BusConfig). Attempts c.self.inside.state k c.args.moment c.args.verdict c.attempt-attempt.result c.attempt-attempt.new.self) c.config-config.ensures.config c.attempt-attempt.ensures in
    let kept = subst (λ (p : Parts). Attempts p c.self.inside.record.config c.args.moment c.args.verdict c.attempt-attempt.result c.attempt-attempt.new.self) c.self.invariant.of_parts here in
    legal_has_line j.config j.history (event.Attempt c.args.moment c.args.verdict) _
    ((attempt_follows j.config j.history c.args.moment c.args.verdict _ _ c.self.invariant.legal c.self.invariant.proper.few_ifaces kept).lawful)

pub push_attempt-requires-clause-fits : goal.push_attempt-requires-clause-fits
push_attempt-requires-clause-fits g c =
    let j = c.self.inside.record in
    let here = subst (λ (k : BusConfig). Attempts c.self.inside.state k c.args.moment c.args.verdict c.attempt-attempt.result c.attempt-attempt.new.self) c.config-config.ensures.config c.attempt-attempt.ensures in
    let kept = subst (λ (p : Parts). Attempts p c.self.inside.record.config c.args.moment c.args.verdict c.attempt-attempt.result c.attempt-attempt.new.self) c.self.invariant.of_parts here in
    legal_fits j c.self.inside.state (event.Attempt c.args.moment c.args.verdict) _ c.self.invariant (λ none. none)
    ((attempt_follows j.config j.history c.args.moment c.args.verdict _ _ c.self.invariant.legal c.self.invariant.proper.few_ifaces kept).lawful)

attempts : (g : given.Over) (c : After-push_attempt g) → Attempts c.self.inside.state c.self.inside.record.config c.args.moment c.args.verdict c.attempt-attempt.result c.attempt-attempt.new.self
attempts g c = subst (λ (k : BusConfig). Attempts c.self.inside.state k c.args.moment c.args.verdict c.attempt-attempt.result c.attempt-attempt.new.self) c.config-config.ensures.config c.attempt-attempt.ensures

is_done : (g : given.Over) (c : After-push_attempt g) → IsDone reply.Attempted c.args.self.now (event.Attempt c.args.moment c.args.verdict) (Ok c.attempt-attempt.result) c.push_attempt.new.self c.attempt-attempt.new.self
is_done g c =
    done reply.Attempted (λ (p : Parts). Attempts p c.self.inside.record.config c.args.moment c.args.verdict c.attempt-attempt.result c.attempt-attempt.new.self)
    c.self.view_is c.self.invariant c.is_full.ensures c.if-is_full.false (attempts g c) refl c.push_attempt.ensures
    (attempt_follows _ _ c.args.moment c.args.verdict _ _ c.self.invariant.legal c.self.invariant.proper.few_ifaces)

pub invariant_of-self : goal.invariant_of-self
invariant_of-self g c = (is_done g c).kept

pub returns : goal.returns
returns g c = (is_done g c).answers
