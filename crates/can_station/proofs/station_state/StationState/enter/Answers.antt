use Rattle.std.proofs.Common.{◌≡◌, ◌<◌, ℕ, length, sym, ap, ◌∙◌, subst, arith}
use Rattle.can_roll.specs.Seen.{RollSeen, scroll_seen}
use Rattle.can_station.specs.Published.{IsPublished}
use Rattle.can_station.proofs.Marking.{booked_enter}
use Rattle.can_station.proofs.station_state.StationState.enter.Goals as goal

pub invariant_of-self : goal.invariant_of-self
invariant_of-self g c =
    let few : length c.self.inside.roll.lists < 4096 = omega (arith, c.if-passes-ge-MAX_PASSES.false, c.passes.ensures) in
    let number : c.enter.new.self.number ≡ c.self.inside.roll.number = ap (λ (r : RollSeen). r.number) c.enter.ensures.roll in (
      booked_enter c.self.inside.roll c.enter.new.self (g.B.Journaled.journal c.self.inside.bus) c.self.invariant.0 few c.enter.ensures.roll,
      subst (λ (n : ℕ). IsPublished c.self.inside.keeper n (g.B.Journaled.journal c.self.inside.bus)) (sym number) c.self.invariant.1,
      c.self.invariant.2 ∙ sym number,
      c.self.invariant.3,
      c.self.invariant.4 ∙ ap (λ (n : ℕ). scroll_seen n (g.B.Journaled.handed_out c.self.inside.bus)) (sym number),
    )
