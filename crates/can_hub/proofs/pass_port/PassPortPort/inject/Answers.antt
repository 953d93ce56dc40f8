use Rattle.std.proofs.Common.{◌≡◌, ℕ, Some, refl, sym, ap, ◌∙◌}
use Rattle.std.specs.Prelude.{option_map, slice_get}
use Rattle.can_hub.specs.Buses.{names_on}
use Rattle.can_hub.specs.PassSteps.{EnteredSeen}
use Rattle.can_hub.proofs.Passing.{injected}
use Rattle.can_hub.proofs.pass_port.PassPortPort.inject.Goals as goal

pub returns : goal.returns
returns g c =
    let now : EnteredSeen = record { station = c.entered.inside.station.now; gauge = c.entered.inside.gauge; pass = c.entered.inside.pass } in
    let place : c.from-number.result ≡ now.station.number = c.from-number.ensures ∙ c.number.ensures in
    let named : Some c.in-Some-names.names.now ≡ names_on (slice_get c.self.inside.buses.now now.station.number) =
    sym (ap (option_map (λ n. n.now)) c.in-Some-names.is) ∙ c.names.ensures ∙ ap (λ (k : ℕ). names_on (slice_get c.self.inside.buses.now k)) place in (
      injected g.row.F.Denot c.args.self.now c.self.inside.buses.now c.self.inside.entered now c.args.rule.now (Some c.in-Some-names.names.now) c.rule_reply.result
          c.self.view_is (c.in-Some.is ∙ ap Some (sym c.entered.view_is)) named (c.inject.result, c.inject.ensures, c.rule_reply.ensures),
      refl,
    )
