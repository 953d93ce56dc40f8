use Rattle.std.proofs.Common.{◌≡◌, sym, ap, ◌∙◌}
use Rattle.can_record.specs.Journal.{Journal}
use Rattle.can_roll.specs.Seen.{RollSeen, scroll_seen}
use Rattle.can_station.proofs.station_state.StationState.call.Goals as goal

pub invariant_of-self : goal.invariant_of-self
invariant_of-self g c =
    let done = c.answer_and_book.ensures in
    let number : c.answer_and_book.new.roll.number ≡ c.self.inside.roll.number = ap (λ (r : RollSeen). r.number) done.roll in (
      done.booked,
      done.published,
      c.self.invariant.2 ∙ sym number,
      ap (λ (j : Journal). j.config) done.answered.after ∙ c.self.invariant.3,
      c.self.invariant.4 ∙ (λ k. scroll_seen (sym number k) (sym done.out k)),
    )
