use Rattle.std.proofs.Common.{◌≡◌, ◌≢◌, ◌<◌, ℕ, sym, ◌∙◌, subst, arith}
use Rattle.std.proofs.lemmas.List.{get_or_default}
use mathlib.Core.Logic.{dite}
use native.Mathlib.Decide.{ℕ_discrete}
use Rattle.can_confine.specs.Confinement.{at_start}
use Rattle.can_meter.specs.Publications.{published}
use Rattle.can_station.specs.Published.{published_after, counters_at}
use Rattle.can_station.proofs.publishing.publish_all.Goals as goal

pub loop-place-preserved : goal.loop-place-preserved
loop-place-preserved g c =
    let was = c.loop-place.invariant in
    let told = c.publish_change.ensures in
    let at = c.loop-place.place in
    let below : at < 16 = omega (arith, c.loop-place-test.true, c.ifaces-place-end.ensures, c.requires.few) in
    let old = get_or_default c.args.before.now at c.index-before-place.result at_start (omega (arith, below, c.type_inv.before)) in
    let new = get_or_default c.args.after.now at c.index-after-place.result at_start (omega (arith, below, c.type_inv.after)) in
    let here = told.list ∙ (λ k. published_after (old k) (new k) c.args.at (was.3 at (omega arith) k)) in (
      told.number ∙ was.0,
      told.ifaces ∙ was.1,
      (λ i lt. dite (ℕ_discrete i at)
          (λ (is : i ≡ at). subst (λ (j : ℕ). published c.publish_change.new.keeper.lists j ≡ published_after (counters_at c.args.before.now j) (counters_at c.args.after.now j) c.args.at (published c.args.keeper.now.lists j)) (sym is) here)
          (λ (isnt : i ≢ at). told.others i isnt ∙ was.2 i (omega (arith, lt, isnt)))),
      (λ i le. told.others i (λ is. omega (arith, le, is)) ∙ was.3 i (omega (arith, le))),
    )
