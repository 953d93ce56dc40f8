use Rattle.std.proofs.Common.{◌≤◌, refl, ap, ◌∙◌, subst}
use Rattle.can_event.specs.Replies.{receive_reply, taken_reply}
use Rattle.can_event.specs.declared.event.Event.TheVariants as event
use Rattle.can_record.specs.PackedEntry.{receive_entry}
use Rattle.can_bus.specs.Changes.{Receives}
use Rattle.can_bus.specs.Lean.{record_of}
use Rattle.can_bus.specs.Long.{LongJournal, handed_entries, journal_of}
use Rattle.can_bus.specs.State.{Parts}
use Rattle.can_bus.proofs.Bounds.{small_taken}
use Rattle.can_bus.proofs.Keeping.{IsDone, done}
use Rattle.can_bus.proofs.Narrow.{legal_fits}
use Rattle.can_bus.proofs.Receiving.{received_follows}
use Rattle.can_bus.proofs.Tails.{full_in, longer_by, out_still, place_in, tail_more}
use Rattle.can_bus.proofs.long_bus.LongBus.receive_into.Given as given
use Rattle.can_bus.proofs.long_bus.LongBus.receive_into.Goals as goal
use Rattle.can_bus.proofs.long_bus.LongBus.receive_into.Goals.{After-note_receive}

pub receive_into-outcome-requires : goal.receive_into-outcome-requires
receive_into-outcome-requires g c = small_taken _ _ c.self.invariant.kept

pub push_receive-requires-clause-room : goal.push_receive-requires-clause-room
push_receive-requires-clause-room g c = place_in c.self.view_is c.requires c.self.invariant.holds

pub push_receive-requires-clause-fits : goal.push_receive-requires-clause-fits
push_receive-requires-clause-fits g c =
    let j = record_of c.self.inside.config c.self.inside.history in
    let receives = subst (λ (p : Parts). Receives p c.args.id.0 (receive_reply c.receive_into-outcome.new.room c.receive_into-outcome.result) c.receive_into-outcome.new.self) c.self.invariant.kept.of_parts c.receive_into-outcome.ensures.receives in
    legal_fits j c.self.inside.state (event.Receive c.args.id) _ c.self.invariant.kept (λ none. none) (received_follows _ _ c.args.id _ _ receives).lawful

is_done : (g : given.Over) (c : After-note_receive g) → IsDone (taken_reply c.receive_into-outcome.new.room) (journal_of c.args.self.now) (event.Receive c.args.id) c.receive_into-outcome.result (record_of c.self.inside.config c.note_receive.new.self) c.receive_into-outcome.new.self
is_done g c =
    done (taken_reply c.receive_into-outcome.new.room) (λ (p : Parts). Receives p c.args.id.0 (receive_reply c.receive_into-outcome.new.room c.receive_into-outcome.result) c.receive_into-outcome.new.self)
    (ap journal_of c.self.view_is) c.self.invariant.kept (full_in c.self.view_is c.is_full.ensures) c.if-is_full.false c.receive_into-outcome.ensures.receives refl (longer_by _ _ _ _ c.note_receive.ensures)
    (received_follows _ _ c.args.id _ _)

pub invariant_of-self : goal.invariant_of-self
invariant_of-self g c = record {
  kept = (is_done g c).kept;
  holds = tail_more (receive_entry c.args.id c.receive_into-outcome.new.room c.receive_into-outcome.result) c.self.invariant.holds c.note_receive.ensures c.push_receive.ensures.more;
}

pub returns-clause-answer : goal.returns-clause-answer
returns-clause-answer g c = (is_done g c).answers

pub returns-clause-tail : goal.returns-clause-tail
returns-clause-tail g c = record { handed = ap (λ (j : LongJournal). j.handed) c.self.view_is; room = subst (λ (j : LongJournal). j.room ≤ c.push_receive.new.self.room) c.self.view_is c.push_receive.ensures.room }

pub returns-clause-out : goal.returns-clause-out
returns-clause-out g c =
    out_still (receive_entry c.args.id c.receive_into-outcome.new.room c.receive_into-outcome.result) c.self.invariant.holds c.note_receive.ensures ∙ ap handed_entries c.self.view_is
