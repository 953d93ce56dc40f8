use Rattle.std.proofs.Common.{◌≡◌, ℕ, [], refl, ap, sym, ◌∙◌, subst}
use Rattle.can_record.specs.Journal.{Journal}
use Rattle.can_meter.specs.Readings.{Readings}
use Rattle.can_roll.specs.Seen.{RollSeen, scroll_seen}
use Rattle.can_station.specs.Marks.{IsBooked}
use Rattle.can_station.specs.Published.{IsPublished}
use Rattle.can_station.proofs.Marking.{booked_first}
use Rattle.can_station.proofs.PublishedFacts.{nothing_published}
use Rattle.can_station.proofs.station_state.StationState.new.Goals as goal

pub invariant_of-state : goal.invariant_of-state
invariant_of-state g c =
    let empty : Journal = record { config = c.args.config; history = [] } in
    let roll = c.roll_with_scroll-roll.ensures.roll in
    let number : c.roll_with_scroll-roll.result.0.number ≡ c.args.number = ap (λ (r : RollSeen). r.number) roll in (
      subst (λ (x : RollSeen × Journal). IsBooked x.0 x.1) (λ k. (sym roll k, sym c.requires.bus k)) (booked_first c.args.number empty c.requires.proper refl),
      subst (λ (x : Readings × ℕ × Journal). IsPublished x.0 x.1 x.2) (λ k. (sym c.requires.keeper k, sym number k, sym c.requires.bus k)) (nothing_published c.args.number c.args.config),
      c.requires.spare ∙ sym number,
      ap (λ (j : Journal). j.config) c.requires.bus,
      c.roll_with_scroll-roll.ensures.handed ∙ (λ k. scroll_seen (sym number k) (sym c.requires.out k)),
    )
