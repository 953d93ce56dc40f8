use Rattle.std.proofs.Common.{◌≡◌, ◌≤◌, ◌≢◌, ℕ, true, List, ◌++◌, Option, Some, None, is_some, sym, ap, subst, ◌∙◌, arith}
use Rattle.can_session.specs.Wires.{Schedule}
use Rattle.can_session.specs.Benches.{BenchState, AreMade}
use Rattle.can_session.proofs.bench_state.Bench.run.Goals as goal

there : (s : Option Schedule) → is_some s ≡ true → s ≢ None
there None is = λ _. cc
there (Some s) is = λ none. cc

pub returns-clause-runs : goal.returns-clause-runs
returns-clause-runs g c =
    let stood = c.self.inside in
    let made = c.in_ok-make_due.ensures.made in
    let put = made.2 ∙ ap (λ (t : List ℕ). t ++ made.0) c.requires in
    record {
      timed = subst (λ (b : BenchState). b.bus.schedule ≢ None) c.self.view_is (there stood.port.schedule (sym c.is_timed.ensures ∙ c.if-not-is_timed.false));
      ahead = subst (λ (b : BenchState). b.moment ≤ c.args.moment) c.self.view_is (omega (arith, c.micros.ensures.micros, c.micros-else-not-is_timed.ensures.micros, c.if-micros.false));
      over = c.make_due.new.self;
      made = subst (λ (t : List ℕ). AreMade (g.F.FaultSource.verdicts c.args.script.now) c.args.moment c.args.self.now t c.make_due.new.self) (sym put) made.1;
      after_is = c.set_moment.ensures;
    }
