use Rattle.std.proofs.Common.{◌≡◌, ℕ, List, Option, Err, sym, ap, subst, ◌∙◌}
use Rattle.can_session.specs.Benches.{BenchState}
use Rattle.can_session.specs.Lines.{Input, unread}
use Rattle.can_session.specs.Runs.{AreAll, Ran, IsRecordOfBench, at_start_with, EndsRun}
use Rattle.can_session.proofs.Configs.{carried_out}
use Rattle.can_session.proofs.Running.{err_is, ends_before, ends_unmade, ends_err}
use Rattle.can_session.proofs.bench_run.bench_noting.Goals as goal

pub returns-in_err-state-clause-runs : goal.returns-in_err-state-clause-runs
returns-in_err-state-clause-runs g c =
    let fault = c.in_err-state.field-0.0 in
    let is = err_is c.from_residual.result fault c.from_residual.ensures in
    let start = at_start_with c.args.config.shows_faults c.args.plan c.args.config.timing c.args.config.names c.args.config.config c.args.config.rx_capacity in
    let now = unread (g.R.Read.remaining c.args.input) in
    λ good. (
      now,
      subst (λ r. EndsRun IsRecordOfBench g.W.Write.contents (g.F.FaultSource.verdicts c.args.config.script) (g.R.Read.remaining c.args.input) start c.args.out.now r now c.args.out.now) (sym is)
          (ends_unmade IsRecordOfBench g.W.Write.contents (g.F.FaultSource.verdicts c.args.config.script) (g.R.Read.remaining c.args.input) start c.args.out.now now fault c.in_err-state.ensures.faults (λ bad. good (is ∙ ap (λ e. Err e) bad))),
    )

pub returns-in_default-clause-runs : goal.returns-in_default-clause-runs
returns-in_default-clause-runs g c =
    let start = at_start_with c.args.config.shows_faults c.args.plan c.args.config.timing c.args.config.names c.args.config.config c.args.config.rx_capacity in
    let now = unread (g.R.Read.remaining c.args.input) in
    λ _. (now, ends_before IsRecordOfBench g.W.Write.contents (g.F.FaultSource.verdicts c.args.config.script) (g.R.Read.remaining c.args.input) start c.args.out.now now)

pub returns-in_err-run-clause-runs : goal.returns-in_err-run-clause-runs
returns-in_err-run-clause-runs g c =
    let contents = g.W.Write.contents in
    let v = g.F.FaultSource.verdicts c.args.config.script in
    let fault = c.in_err-run.field-0.0 in
    let is = err_is c.from_residual-in_err-run.result fault c.from_residual-in_err-run.ensures in
    let coming = ap (λ (i : Input). i.coming) c.in-Ok.ensures in
    let start = at_start_with c.args.config.shows_faults c.args.plan c.args.config.timing c.args.config.names c.args.config.config c.args.config.rx_capacity in
    let now = c.run.new.lines in
    let ended = ends_err IsRecordOfBench contents v c.in-Ok.lines.coming c.in_ok-state.state c.args.out.now now c.run.new.out c.run.new.state fault c.in_err-run.ensures in
    λ _. (
      now,
      subst (λ r. EndsRun IsRecordOfBench contents v (g.R.Read.remaining c.args.input) start c.args.out.now r now c.run.new.out) (sym is)
          (subst (λ (o : Option (List ℕ)). EndsRun IsRecordOfBench contents v o start c.args.out.now (Err fault) now c.run.new.out) coming
          (subst (λ (b : BenchState). EndsRun IsRecordOfBench contents v c.in-Ok.lines.coming b c.args.out.now (Err fault) now c.run.new.out) c.in_ok-state.ensures.made ended)),
    )

pub returns-clause-runs : goal.returns-clause-runs
returns-clause-runs g c =
    let ran = c.in_ok-run.ensures in
    let coming = ap (λ (i : Input). i.coming) c.in-Ok.ensures in
    λ _. (
      c.run.new.lines,
      (
        ran.0,
        ran.1,
        subst (λ (o : Option (List ℕ)). AreAll o ran.0) coming ran.2,
        ran.3,
        ran.4,
        subst (λ (b : BenchState). Ran g.W.Write.contents (g.F.FaultSource.verdicts c.args.config.script) ran.0 b c.args.out.now ran.1 c.run.new.out) c.in_ok-state.ensures.made ran.5,
        subst (λ (b : BenchState). IsRecordOfBench c.into_record.result b) (sym ran.6) c.into_record.ensures.record,
      ),
    )

pub returns-clause-notes : goal.returns-clause-notes
returns-clause-notes g c =
    let ran = c.in_ok-run.ensures in
    let coming = ap (λ (i : Input). i.coming) c.in-Ok.ensures in (
      c.run.new.lines,
      (
        ran.0,
        ran.1,
        subst (λ (o : Option (List ℕ)). AreAll o ran.0) coming ran.2,
        ran.3,
        ran.4,
        subst (λ (b : BenchState). Ran g.W.Write.contents (g.F.FaultSource.verdicts c.args.config.script) ran.0 b c.args.out.now ran.1 c.run.new.out) c.in_ok-state.ensures.made ran.5,
        c.ignored.ensures ∙ ap (λ (b : BenchState). b.ignored) (sym ran.6),
      ),
    )

pub returns-clause-config : goal.returns-clause-config
returns-clause-config g c =
    let ran = c.in_ok-run.ensures in
    c.into_record.ensures.record.config ∙ ap (λ (b : BenchState). b.bus.journal.config) (sym ran.6)
    ∙ carried_out (g.F.FaultSource.verdicts c.args.config.script) ran.0 c.in_ok-state.state ran.5.text ran.1 ran.5.carried ∙ ap (λ (b : BenchState). b.bus.journal.config) c.in_ok-state.ensures.made
