use Rattle.std.proofs.Common.{◌≤◌, refl, ap, ◌∙◌, subst}
use Rattle.can_event.specs.declared.event.Event.TheVariants as event
use Rattle.can_event.specs.declared.reply.Reply.TheVariants as reply
use Rattle.can_record.specs.PackedEntry.{send_entry}
use Rattle.can_bus.specs.Changes.{Sends, pending_of}
use Rattle.can_bus.specs.Lean.{record_of}
use Rattle.can_bus.specs.Long.{LongJournal, handed_entries, journal_of}
use Rattle.can_bus.specs.State.{Parts}
use Rattle.can_bus.proofs.Bounds.{small_sent, small_refused, known_ifaces}
use Rattle.can_bus.proofs.Keeping.{IsDone, done}
use Rattle.can_bus.proofs.Narrow.{legal_fits}
use Rattle.can_bus.proofs.Sending.{sent_follows}
use Rattle.can_bus.proofs.Tails.{full_in, longer_by, out_still, place_in, tail_more}
use Rattle.can_bus.proofs.long_bus.LongBus.send.Given as given
use Rattle.can_bus.proofs.long_bus.LongBus.send.Goals as goal
use Rattle.can_bus.proofs.long_bus.LongBus.send.Goals.{After-note_send}

pub send-outcome-requires : goal.send-outcome-requires
send-outcome-requires g c = record { sent = small_sent _ _ c.self.invariant.kept; refused = small_refused _ _ c.self.invariant.kept; known = known_ifaces _ _ c.self.invariant.kept }

pub push_send-requires-clause-room : goal.push_send-requires-clause-room
push_send-requires-clause-room g c = place_in c.self.view_is c.requires c.self.invariant.holds

pub push_send-requires-clause-fits : goal.push_send-requires-clause-fits
push_send-requires-clause-fits g c =
    let j = record_of c.self.inside.config c.self.inside.history in
    let sends = subst (λ (p : Parts). Sends p c.args.id.0 (pending_of c.args.frame c.args.id) c.send-outcome.result c.send-outcome.new.self) c.self.invariant.kept.of_parts c.send-outcome.ensures in
    legal_fits j c.self.inside.state (event.Send c.args.id c.args.frame) _ c.self.invariant.kept (λ none. none) (sent_follows _ _ c.args.id c.args.frame _ _ c.self.invariant.kept.proper c.self.invariant.kept.legal sends).lawful

is_done : (g : given.Over) (c : After-note_send g) → IsDone reply.Sent (journal_of c.args.self.now) (event.Send c.args.id c.args.frame) c.send-outcome.result (record_of c.self.inside.config c.note_send.new.self) c.send-outcome.new.self
is_done g c =
    done reply.Sent (λ (p : Parts). Sends p c.args.id.0 (pending_of c.args.frame c.args.id) c.send-outcome.result c.send-outcome.new.self)
    (ap journal_of c.self.view_is) c.self.invariant.kept (full_in c.self.view_is c.is_full.ensures) c.if-is_full.false c.send-outcome.ensures refl (longer_by _ _ _ _ c.note_send.ensures)
    (sent_follows _ _ c.args.id c.args.frame _ _ c.self.invariant.kept.proper c.self.invariant.kept.legal)

pub invariant_of-self : goal.invariant_of-self
invariant_of-self g c = record {
  kept = (is_done g c).kept;
  holds = tail_more (send_entry c.args.id c.args.frame c.send-outcome.result) c.self.invariant.holds c.note_send.ensures c.push_send.ensures.more;
}

pub returns-clause-answer : goal.returns-clause-answer
returns-clause-answer g c = (is_done g c).answers

pub returns-clause-tail : goal.returns-clause-tail
returns-clause-tail g c = record { handed = ap (λ (j : LongJournal). j.handed) c.self.view_is; room = subst (λ (j : LongJournal). j.room ≤ c.push_send.new.self.room) c.self.view_is c.push_send.ensures.room }

pub returns-clause-out : goal.returns-clause-out
returns-clause-out g c =
    out_still (send_entry c.args.id c.args.frame c.send-outcome.result) c.self.invariant.holds c.note_send.ensures ∙ ap handed_entries c.self.view_is
