use Rattle.std.proofs.Common.{◌≡◌, ℕ, Some, refl, sym, ap, ◌∙◌}
use Rattle.std.specs.Prelude.{slice_get}
use Rattle.can_hub.specs.Buses.{rates_on}
use Rattle.can_hub.specs.PassSteps.{EnteredSeen}
use Rattle.can_hub.proofs.Passing.{rates_told}
use Rattle.can_hub.proofs.pass_port.PassPortPort.load.Goals as goal

pub returns : goal.returns
returns g c =
    let now : EnteredSeen = record { station = c.entered.inside.station.now; gauge = c.entered.inside.gauge; pass = c.entered.inside.pass } in
    let place : c.from-number.result ≡ now.station.number = c.from-number.ensures ∙ c.number.ensures in (
      rates_told c.args.self.now c.self.inside.buses.now c.self.inside.entered now c.load_at.result c.self.view_is (c.in-Some.is ∙ ap Some (sym c.entered.view_is))
          (c.load_at.ensures ∙ ap (λ (k : ℕ). rates_on (slice_get c.self.inside.buses.now k)) place),
      refl,
    )
