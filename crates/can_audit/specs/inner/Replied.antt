use Rattle.std.specs.Prelude.{ℕ, List, Result}
use Rattle.can_frame.specs.declared.iface.IfaceSet.{IfaceSet}
use Rattle.can_attempt.specs.declared.judgement.Judgement.{Judgement}
use Rattle.can_event.specs.declared.bus_config.BusConfig.{BusConfig}
use Rattle.can_event.specs.declared.entry.Entry.{Entry}
use Rattle.can_event.specs.declared.event.Event.{Event}
use Rattle.can_event.specs.declared.pending.Pending.{Pending}
use Rattle.can_event.specs.declared.reply.Reply.{Reply}
use Rattle.can_event.specs.declared.attempt.Attempt.TheVariants as attempt
use Rattle.can_event.specs.declared.reply.Reply.TheVariants as reply
use Rattle.can_bus.specs.Legal.{legal_reply}
use Rattle.can_audit.specs.Histories.{OnHistory, Yields}

-- The reply to an event (own choice).

-- the call returned the reply to this event after these entries, if a bus can have them
abbrev pub ReturnsReply : {E : Type 0} → BusConfig → List Entry → Event → Result Reply E → Type 0
ReturnsReply c entries e result = OnHistory c entries (λ past. Yields result (legal_reply c past e))

-- the reply to an attempt: the winner, the number of its frame, the frame, its outcome, and the restarted interfaces
abbrev pub tried_reply : ℕ → ℕ → ℕ → Pending → Judgement → IfaceSet → Reply
tried_reply moment winner number p j restarted =
    reply.Attempted (attempt.Tried (record {
      moment = moment;
      winner = winner;
      number = number;
      frame = p.frame;
      class = j.class;
      accepted = j.accepted;
      off = j.off;
      restarted = restarted;
    }))
