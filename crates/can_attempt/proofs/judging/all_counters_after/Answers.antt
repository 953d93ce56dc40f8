use Rattle.std.proofs.Common.{◌≤◌, arith, sym, ◌∙◌, inl, inr}
use Rattle.std.proofs.lemmas.Bool.{cases_lt}
use Rattle.std.proofs.lemmas.List.FromFn.{fill_by_all}
use Rattle.can_confine.specs.Confinement.{at_start}
use Rattle.can_attempt.specs.Attempts.{Transmission, attempt_between, counts_in}
use Rattle.can_attempt.proofs.Places.{counts_in-beyond}
use Rattle.can_attempt.proofs.judging.all_counters_after.Goals as goal

pub returns : goal.returns
returns c a =
    let t : Transmission = attempt_between c.args.nodes.now c.args.winner c.args.verdict a in
    let ended : t.count ≤ c.loop-place.place = omega (arith, c.loop-place-test.false) in
    fill_by_all (counts_in c.args.class t) c.loop-place.counters 16 at_start c.loop-place.invariant.0
    (λ k h. elim (cases_lt k c.loop-place.place) [
      | inl there ↦ c.loop-place.invariant.1 a k there
      | inr past ↦ c.loop-place.invariant.2 k (omega (arith, past)) ∙ sym (counts_in-beyond c.args.class t k c.requires.winner (omega (arith, past, ended)))
    ])
