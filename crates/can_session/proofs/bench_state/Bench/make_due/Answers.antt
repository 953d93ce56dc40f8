use Rattle.std.proofs.Common.{◌≡◌, inl, inr, ℕ, suc, true, false, List, [], ◌++◌, refl, sym, ap, ◌∙◌, append_assoc}
use Rattle.std.proofs.lemmas.List.{append-nil}
use Rattle.can_session.specs.Benches.{is_attempt_due}
use Rattle.can_session.proofs.TimedRuns.{stops_full, tried_as}
use Rattle.can_session.proofs.bench_state.Bench.make_due.Goals as goal

pub returns-then-not-branch-clause-made : goal.returns-then-not-branch-clause-made
returns-then-not-branch-clause-made g c =
    let inv = c.loop-moment.invariant in
    let b = c.loop-moment.self in
    let put = c.in_ok-attempt.ensures.tried in
    let v = g.F.FaultSource.verdicts c.args.script.now in
    let due : is_attempt_due c.args.moment b ≡ true = sym c.is_due.ensures ∙ c.loop-moment-test.true in
    let none = tried_as v (g.F.FaultSource.verdicts c.loop-moment.script) c.in_ok-attempt.field-0 false b put.0 c.attempt.new.self inv.4 c.if-not-branch.true put.1 in (
      inv.1 ++ put.0,
      record {
        count = inv.0;
        before = inv.1;
        mid = b;
        last = put.0;
        tried = inv.2;
        ends = inr (due, stops_full v b put.0 c.attempt.new.self none, none.0);
        said = refl;
      },
      put.2 ∙ ap (λ (t : List ℕ). t ++ put.0) inv.3 ∙ append_assoc c.args.said.now.items inv.1 put.0,
    )

pub loop-moment-preserved : goal.loop-moment-preserved
loop-moment-preserved g c =
    let inv = c.loop-moment.invariant in
    let b = c.loop-moment.self in
    let put = c.in_ok-attempt.ensures.tried in
    let v = g.F.FaultSource.verdicts c.args.script.now in
    let due : is_attempt_due c.args.moment b ≡ true = sym c.is_due.ensures ∙ c.loop-moment-test.true in
    let one = tried_as v (g.F.FaultSource.verdicts c.loop-moment.script) c.in_ok-attempt.field-0 true b put.0 c.attempt.new.self inv.4 c.if-not-branch.false put.1 in (
      suc inv.0,
      inv.1 ++ put.0,
      (inv.1, b, put.0, inv.2, due, one, refl),
      put.2 ∙ ap (λ (t : List ℕ). t ++ put.0) inv.3 ∙ append_assoc c.args.said.now.items inv.1 put.0,
      c.attempt.ensures.keeps ∙ inv.4,
    )

pub returns-clause-made : goal.returns-clause-made
returns-clause-made g c =
    let inv = c.loop-moment.invariant in (
      inv.1,
      record {
        count = inv.0;
        before = inv.1;
        mid = c.loop-moment.self;
        last = [];
        tried = inv.2;
        ends = inl (sym c.is_due.ensures ∙ c.loop-moment-test.false, refl, refl);
        said = sym (append-nil inv.1);
      },
      inv.3,
    )
