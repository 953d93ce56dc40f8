use Rattle.std.proofs.Common.{ℕ, ap, ◌∙◌, subst}
use Rattle.std.proofs.lemmas.Result.{IfOk-weaker}
use Rattle.can_record.specs.Journal.{Journal}
use Rattle.can_station.specs.Published.{TakesBackScroll}
use Rattle.can_station.proofs.station.Station.settle_scroll.Goals as goal

pub returns-clause-config : goal.returns-clause-config
returns-clause-config g c = IfOk-weaker c.settle_scroll.result _ _ (λ s left. ap (λ (j : Journal). j.config) left ∙ c.into_state.ensures.config) c.settle_scroll.ensures.left

pub returns-clause-refused : goal.returns-clause-refused
returns-clause-refused g c =
    subst (λ (n : ℕ). TakesBackScroll n c.args.scroll.number c.args.passes.items c.args.gauges.items c.settle_scroll.result) c.into_state.ensures.number c.settle_scroll.ensures.refused
