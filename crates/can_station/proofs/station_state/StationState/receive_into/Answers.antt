use Rattle.std.proofs.Common.{◌≡◌, sym, ap, ◌∙◌, refl}
use Rattle.std.specs.Prelude.{None}
use Rattle.can_record.specs.Journal.{Journal}
use Rattle.can_event.specs.Replies.{taken_reply}
use Rattle.can_event.specs.declared.event.Event.{Event}
use Rattle.can_event.specs.declared.event.Event.TheVariants as event
use Rattle.can_roll.specs.Seen.{RollSeen, scroll_seen}
use Rattle.can_station.proofs.Marking.{booked_after}
use Rattle.can_station.proofs.Outcomes.{answer_of, bus_after}
use Rattle.can_station.proofs.PublishedFacts.{published_still}
use Rattle.can_station.proofs.station_state.StationState.receive_into.Goals as goal

pub invariant_of-self : goal.invariant_of-self
invariant_of-self g c =
    let e : Event = event.Receive c.args.socket in
    let old : Journal = g.B.Journaled.journal c.self.inside.bus in
    let new : Journal = g.B.Journaled.journal c.receive_into-outcome.new.self in
    let number : c.book.new.roll.number ≡ c.self.inside.roll.number = ap (λ (r : RollSeen). r.number) c.book.ensures.roll in
    let after = bus_after (taken_reply c.receive_into-outcome.new.room) e old new (λ a noted. noted.new_is) (λ a noted. (noted.room, noted.lawful)) c.receive_into-outcome.result c.receive_reply-reply.result c.receive_into-outcome.ensures.answer c.receive_reply-reply.ensures in
    let answer = answer_of (taken_reply c.receive_into-outcome.new.room) e old new (λ a noted. noted.new_is) (λ a noted. (noted.room, noted.lawful)) c.receive_into-outcome.result c.receive_reply-reply.result c.receive_into-outcome.ensures.answer c.receive_reply-reply.ensures in (
      booked_after c.self.inside.roll c.book.new.roll old new c.args.slip.now.pass e c.receive_reply-reply.result c.self.invariant.0 answer c.book.ensures.below c.book.ensures.roll after,
      published_still c.self.inside.keeper c.self.inside.roll.number c.book.new.roll.number old new e c.receive_reply-reply.result None refl refl c.self.invariant.1 number after,
      c.self.invariant.2 ∙ sym number,
      ap (λ (j : Journal). j.config) after ∙ c.self.invariant.3,
      c.self.invariant.4 ∙ (λ k. scroll_seen (sym number k) (sym c.receive_into-outcome.ensures.out k)),
    )
