use Rattle.std.proofs.Common.{◌≡◌, ◌<◌, ◌∷◌, [], ◌++◌, ℕ, List, length, sym, ap, ◌∙◌, subst, append_assoc, arith}
use Rattle.std.proofs.lemmas.List.{map-append}
use Rattle.std.proofs.lemmas.List.Elements.{All-push}
use Rattle.std.specs.Vec.Iter.{into_iter_items}
use Rattle.can_roll.specs.Lists.{row, Distinct, AllBelow, NotIn}
use Rattle.can_roll.specs.Seen.{RollSeen, roll_seen}
use Rattle.can_roll.proofs.Passes.{distinct_end, below_end}
use Rattle.can_station.specs.Passes.{PassSeen, numbers_of}
use Rattle.can_station.proofs.pass.recall_all.Goals as goal

pub loop-pass-preserved : goal.loop-pass-preserved
loop-pass-preserved g c =
    let at = c.loop-pass in
    let was = at.invariant in
    let lists = c.args.roll.now.lists in
    let pass = c.in-Some.pass in
    let steps : into_iter_items at.pass-iterator ≡ pass ∷ into_iter_items c.next.new.self = c.in-Some.ensures.steps.0 in
    let slip = c.into_slip.result in
    let called : at.roll.called ≡ numbers_of at.yielded = ap (λ (r : RollSeen). r.called) was.2 in
    let same_lists : at.roll.lists ≡ lists = ap (λ (r : RollSeen). r.lists) was.2 in
    let number : slip.pass ≡ pass.pass = c.into_slip.ensures.pass in
    let longer : numbers_of at.yielded ++ pass.pass ∷ [] ≡ numbers_of (at.yielded ++ pass ∷ []) = sym (map-append (λ (v : PassSeen). v.pass) at.yielded (pass ∷ [])) in
    let mine : row lists pass.pass ≡ pass.calls = sym (λ k. row (same_lists k) (number k)) ∙ c.recall.ensures.calls ∙ c.into_slip.ensures.calls in
    let new : NotIn pass.pass (numbers_of at.yielded) = subst (λ (ps : List ℕ). NotIn pass.pass ps) called (subst (λ (p : ℕ). NotIn p at.roll.called) number c.recall.ensures.once) in
    let below = subst (λ (p : ℕ). p < length lists) number (subst (λ (ls : List _). slip.pass < length ls) same_lists c.recall.ensures.below) in (
      append_assoc at.yielded (pass ∷ []) _ ∙ rw (← steps) was.0,
      (let gone = c.in-Some.ensures.steps.1 in let short = ap length steps in omega (arith, was.1)),
      c.recall.ensures.roll ∙ (λ k. roll_seen (was.2 k).number (was.2 k).lists ((was.2 k).called ++ number k ∷ [])) ∙ ap (roll_seen c.args.roll.now.number lists) longer,
      All-push (λ (v : PassSeen). row lists v.pass ≡ v.calls) at.yielded pass was.3 mine,
      subst Distinct longer (distinct_end pass.pass (numbers_of at.yielded) was.4 new),
      subst (AllBelow (length lists)) longer (below_end (length lists) pass.pass (numbers_of at.yielded) was.5 below),
    )
