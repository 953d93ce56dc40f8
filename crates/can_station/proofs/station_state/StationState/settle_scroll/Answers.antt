use Rattle.std.proofs.Common.{◌≡◌, rules, sym, ◌∙◌, subst}
use Rattle.can_station.specs.Held.{Held}
use Rattle.can_station.specs.Published.{TakesBackScroll}
use Rattle.can_station.proofs.PublishedFacts.{with_scroll}
use Rattle.can_station.proofs.station_state.StationState.settle_scroll.Goals as goal

pub returns-clause-refused : goal.returns-clause-refused
returns-clause-refused g c =
    let same : c.number.result ≡ c.number-2.result = search (rules, c.if-number.false) in
    let own : c.args.scroll.number ≡ c.self.inside.roll.number = sym c.number.ensures ∙ same ∙ c.number-2.ensures in
    subst (λ (h : Held g.row.F.Denot). TakesBackScroll h.number c.args.scroll.number c.args.passes.items c.args.gauges.items c.settle_bus.result) c.self.view_is
    (with_scroll c.self.inside.roll.number c.args.scroll.number c.args.passes.items c.args.gauges.items c.settle_bus.result own c.settle_bus.ensures.refused)
