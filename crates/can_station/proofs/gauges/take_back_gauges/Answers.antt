use Rattle.std.proofs.Common.{◌≡◌, ◌∷◌, [], List, length, refl, sym, ap, ◌∙◌, subst, append_assoc, append-nil, arith}
use Rattle.std.proofs.lemmas.List.Elements.{All-push, All-same}
use Rattle.std.specs.Vec.Iter.{into_iter_items}
use Rattle.can_meter.specs.Publications.{AreEndsOf}
use Rattle.can_meter.specs.Readings.{Readings}
use Rattle.can_station.proofs.gauges.take_back_gauges.Goals as goal

pub loop-gauge-preserved : goal.loop-gauge-preserved
loop-gauge-preserved g c =
    let at = c.loop-gauge in
    let was = at.invariant in
    let gauge = c.in-Some.gauge in
    let steps : into_iter_items at.gauge-iterator ≡ gauge ∷ into_iter_items c.next.new.self = c.in-Some.ensures.steps.0 in (
      append_assoc at.yielded (gauge ∷ []) _ ∙ rw (← steps) was.0,
      (let gone = c.in-Some.ensures.steps.1 in let short = ap length steps in omega (arith, was.1)),
      c.absorb.ensures.same ∙ was.2,
      All-push (λ (v : Readings). AreEndsOf v.lists c.args.keeper.now.lists) at.yielded gauge was.3 (subst (λ (k : Readings). AreEndsOf gauge.lists k.lists) was.2 c.absorb.ensures.seen),
    )

nothing_left : {X : Type 0} (l : List X) → length l ≡ 0 → l ≡ []
nothing_left [] h = refl
nothing_left (x ∷ xs) h = absurd (omega arith)

pub returns-clause-seen : goal.returns-clause-seen
returns-clause-seen g c =
    let at = c.loop-gauge in
    let none = c.in-None.ensures.steps in
    let empty : into_iter_items at.gauge-iterator ≡ [] = nothing_left _ (sym at.invariant.1 ∙ none.0) in
    let all = sym (append-nil at.yielded) ∙ rw empty at at.invariant.0 ∙ c.into_iter-gauge-iterator.ensures.into_iter_gives.0 in
    All-same (λ (v : Readings). AreEndsOf v.lists c.args.keeper.now.lists) c.args.gauges.items at.yielded (sym all) at.invariant.3
