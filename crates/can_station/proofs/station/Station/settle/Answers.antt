use Rattle.std.proofs.Common.{ℕ, ap, ◌∙◌, subst}
use Rattle.std.proofs.lemmas.Result.{IfOk-weaker}
use Rattle.can_record.specs.Journal.{Journal}
use Rattle.can_station.specs.Published.{TakesBack}
use Rattle.can_station.proofs.station.Station.settle.Goals as goal

pub returns-clause-config : goal.returns-clause-config
returns-clause-config g c = IfOk-weaker c.settle.result _ _ (λ s left. ap (λ (j : Journal). j.config) left ∙ c.into_state.ensures.config) c.settle.ensures.left

pub returns-clause-refused : goal.returns-clause-refused
returns-clause-refused g c = subst (λ (n : ℕ). TakesBack n c.args.passes.items c.args.gauges.items c.settle.result) c.into_state.ensures.number c.settle.ensures.refused
