use Rattle.std.proofs.Common.{◌≡◌, Bool, true, false, not, refl, sym, ap, ◌∙◌}
use Rattle.std.proofs.lemmas.Bool.{cond-false}
use Rattle.can_meter.specs.Publications.{published}
use Rattle.can_station.specs.Published.{are_same}
use Rattle.can_meter.specs.Readings.{Readings}
use Rattle.can_meter.proofs.Lists.{published-with_list, published-with_list_else}
use Rattle.can_station.proofs.publishing.publish_change.Goals as goal

differ : (same result : Bool) → result ≡ not same → result ≡ true → same ≡ false
differ true result is told = cc
differ false result is told = refl

pub returns-then-ne-clause-list : goal.returns-then-ne-clause-list
returns-then-ne-clause-list g c =
    let old = c.args.before in
    let new = c.args.after in
    ap (λ (k : Readings). published k.lists c.args.place) c.publish.ensures
    ∙ published-with_list c.args.keeper.now.lists c.args.place _
    ∙ sym (cond-false (are_same old new) _ _ (differ (are_same old new) c.ne.result c.ne.ensures c.if-ne.true))

pub returns-then-ne-clause-others : goal.returns-then-ne-clause-others
returns-then-ne-clause-others g c =
    λ i other. ap (λ (k : Readings). published k.lists i) c.publish.ensures ∙ published-with_list_else c.args.keeper.now.lists c.args.place i _ other
