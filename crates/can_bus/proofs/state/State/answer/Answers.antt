use Rattle.std.proofs.Common.{refl, sym, subst}
use Rattle.can_event.specs.Events.{with_option}
use Rattle.can_event.specs.declared.event.Event.{Event}
use Rattle.can_event.specs.declared.event.Event.TheVariants as event
use Rattle.can_bus.specs.Changes.{Attempts, Closes, Receives, Restarts, Sends, Sets, TakesDown, pending_of}
use Rattle.can_bus.specs.Lean.{Carries}
use Rattle.can_bus.specs.State.{Parts}
use Rattle.can_bus.proofs.Attempting.{attempt_follows, never_left, sixteen_nodes, ready, few_nodes, nodes_there}
use Rattle.can_bus.proofs.Bounds.{small_opened, small_sent, small_refused, known_ifaces, small_taken, small_gone, small_done, small_dropped, small_dropped_one, small_tried}
use Rattle.can_bus.proofs.Carrying.{carried, carried-open, carried-filters}
use Rattle.can_bus.proofs.Closing.{closed_follows}
use Rattle.can_bus.proofs.Downing.{taken_down_follows}
use Rattle.can_bus.proofs.Receiving.{received_follows}
use Rattle.can_bus.proofs.Restarting.{restarted_follows}
use Rattle.can_bus.proofs.Sending.{sent_follows}
use Rattle.can_bus.proofs.Setting.{option_follows}
use Rattle.can_bus.proofs.state.State.answer.Goals as goal

pub open-requires : goal.open-requires
open-requires g c = small_opened _ _ c.requires.kept

pub send-requires-clause-sent : goal.send-requires-clause-sent
send-requires-clause-sent g c = small_sent _ _ c.requires.kept

pub send-requires-clause-refused : goal.send-requires-clause-refused
send-requires-clause-refused g c = small_refused _ _ c.requires.kept

pub send-requires-clause-known : goal.send-requires-clause-known
send-requires-clause-known g c = known_ifaces _ _ c.requires.kept

pub receive-requires : goal.receive-requires
receive-requires g c = small_taken _ _ c.requires.kept

pub attempt-requires : goal.attempt-requires
attempt-requires g c = record {
  few = few_nodes _ _ c.requires.kept;
  sixteen = sixteen_nodes _ _ c.requires.kept;
  ready = ready _ _ c.requires.kept;
  gone = small_gone _ _ c.requires.kept;
  done = small_done _ _ c.requires.kept;
  dropped = small_dropped _ _ c.requires.kept;
  tried = small_tried _ _ c.requires.kept;
  never = never_left _ _ _ c.requires.kept refl;
}

pub restart-requires : goal.restart-requires
restart-requires g c = small_dropped_one _ _ c.requires.kept

pub down-requires : goal.down-requires
down-requires g c = nodes_there _ _ c.requires.kept

pub returns-in-Open : goal.returns-in-Open
returns-in-Open g c = λ past kept room.
    subst (λ (e : Event). Carries c.args.config past e c.open.result c.open.new.self) (sym c.in-Open.is)
    (carried-open c.args.config past c.in-Open.iface c.in-Open.capacity _ _ _ kept room c.open.ensures)

pub returns-in-Close : goal.returns-in-Close
returns-in-Close g c = λ past kept room.
    carried c.args.config past (event.Close c.in-Close.id) _ (λ (p : Parts). Closes p c.in-Close.id.0 c.close.result c.close.new.self)
    c.in-Close.is kept room c.close.ensures refl (closed_follows _ _ c.in-Close.id _ _)

pub returns-in-SetFilters : goal.returns-in-SetFilters
returns-in-SetFilters g c = λ past kept room.
    subst (λ (e : Event). Carries c.args.config past e c.set_filters.result c.set_filters.new.self) (sym c.in-SetFilters.is)
    (carried-filters c.args.config past c.in-SetFilters.id c.in-SetFilters.filters _ _ _ kept room c.set_filters.ensures)

pub returns-in-SetOption : goal.returns-in-SetOption
returns-in-SetOption g c = λ past kept room.
    carried c.args.config past (event.SetOption c.in-SetOption.id c.in-SetOption.option) _
    (λ (p : Parts). Sets p c.in-SetOption.id.0 (λ v. record v { options = with_option c.in-SetOption.option v.options }) c.set_option.result c.set_option.new.self)
    c.in-SetOption.is kept room c.set_option.ensures refl (option_follows _ _ c.in-SetOption.id c.in-SetOption.option _ _)

pub returns-in-Send : goal.returns-in-Send
returns-in-Send g c = λ past kept room.
    carried c.args.config past (event.Send c.in-Send.id c.in-Send.frame) _ (λ (p : Parts). Sends p c.in-Send.id.0 (pending_of c.in-Send.frame c.in-Send.id) c.send.result c.send.new.self)
    c.in-Send.is kept room c.send.ensures c.sent_reply.ensures (sent_follows _ _ c.in-Send.id c.in-Send.frame _ _ kept.proper kept.legal)

pub returns-in-Receive : goal.returns-in-Receive
returns-in-Receive g c = λ past kept room.
    carried c.args.config past (event.Receive c.in-Receive.id) _ (λ (p : Parts). Receives p c.in-Receive.id.0 c.receive.result c.receive.new.self)
    c.in-Receive.is kept room c.receive.ensures refl (received_follows _ _ c.in-Receive.id _ _)

pub returns-in-Attempt : goal.returns-in-Attempt
returns-in-Attempt g c = λ past kept room.
    carried c.args.config past (event.Attempt c.in-Attempt.moment c.in-Attempt.verdict) _
    (λ (p : Parts). Attempts p c.args.config c.in-Attempt.moment c.in-Attempt.verdict c.attempt.result c.attempt.new.self)
    c.in-Attempt.is kept room c.attempt.ensures refl
    (attempt_follows _ _ c.in-Attempt.moment c.in-Attempt.verdict _ _ kept.legal kept.proper.few_ifaces)

pub returns-in-Restart : goal.returns-in-Restart
returns-in-Restart g c = λ past kept room.
    carried c.args.config past (event.Restart c.in-Restart.iface c.in-Restart.moment) _ (λ (p : Parts). Restarts p c.in-Restart.iface c.in-Restart.moment c.restart.result c.restart.new.self)
    c.in-Restart.is kept room c.restart.ensures refl (restarted_follows _ _ c.in-Restart.iface c.in-Restart.moment _ _ kept.legal kept.proper.few_ifaces)

pub returns-in-Down : goal.returns-in-Down
returns-in-Down g c = λ past kept room.
    carried c.args.config past (event.Down c.in-Down.iface _) _ (λ (p : Parts). TakesDown p c.in-Down.iface c.down.result c.down.new.self)
    c.in-Down.is kept room c.down.ensures refl (taken_down_follows _ _ c.in-Down.iface _ _ _ kept.proper.few_ifaces)
