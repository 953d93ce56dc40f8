use Rattle.std.proofs.Common.{◌≡◌, ℕ, Bool, List, Option, Err, sym, ap, subst, ◌∙◌}
use Rattle.can_session.specs.Benches.{BenchState}
use Rattle.can_event.specs.declared.bus_config.BusConfig.{BusConfig}
use Rattle.can_rules.specs.Plans.{PlanSeen, no_plan}
use Rattle.can_wire.specs.Timings.{BusTiming}
use Rattle.can_session.specs.Runs.{Ran, IsRecordOfBench, new_bench, at_start_with, EndsRun}
use Rattle.can_session.proofs.Configs.{carried_out}
use Rattle.can_session.proofs.Running.{err_is, ends_unmade, ends_err}
use Rattle.can_session.proofs.bench_run.bench_lines.Goals as goal

-- a bench that was created without a fault plan
without_plan : (shows : Bool) (timing : Option BusTiming) (names : List (List ℕ)) (config : BusConfig) (capacity : ℕ) (b : BenchState) (plan : PlanSeen) → b ≡ at_start_with shows plan timing names config capacity → plan ≡ no_plan → b ≡ new_bench shows timing names config capacity
without_plan shows timing names config capacity b plan made none = made ∙ ap (λ (p : PlanSeen). at_start_with shows p timing names config capacity) none

pub returns-in_err-state-clause-runs : goal.returns-in_err-state-clause-runs
returns-in_err-state-clause-runs g c =
    let contents = g.W.Write.contents in
    let v = g.F.FaultSource.verdicts c.args.config.script in
    let fault = c.in_err-state.field-0.0 in
    let is = err_is c.from_residual.result fault c.from_residual.ensures in
    let start = new_bench c.args.config.shows_faults c.args.config.timing c.args.config.names c.args.config.config c.args.config.rx_capacity in
    let now = c.args.lines.now in
    λ good. subst (λ r. EndsRun IsRecordOfBench contents v now.coming start c.args.out.now r now c.args.out.now) (sym is)
    (ends_unmade IsRecordOfBench contents v now.coming start c.args.out.now now fault c.in_err-state.ensures.faults (λ bad. good (is ∙ ap (λ e. Err e) bad)))

pub returns-in_err-run-clause-runs : goal.returns-in_err-run-clause-runs
returns-in_err-run-clause-runs g c =
    let contents = g.W.Write.contents in
    let v = g.F.FaultSource.verdicts c.args.config.script in
    let fault = c.in_err-run.field-0.0 in
    let is = err_is c.from_residual-in_err-run.result fault c.from_residual-in_err-run.ensures in
    let start = new_bench c.args.config.shows_faults c.args.config.timing c.args.config.names c.args.config.config c.args.config.rx_capacity in
    let coming = c.args.lines.now.coming in
    let now = c.run.new.lines in
    let made = without_plan c.args.config.shows_faults c.args.config.timing c.args.config.names c.args.config.config c.args.config.rx_capacity c.in_ok-state.state c.new-plan.result c.in_ok-state.ensures.made c.new-plan.ensures in
    let ended = ends_err IsRecordOfBench contents v coming c.in_ok-state.state c.args.out.now now c.run.new.out c.run.new.state fault c.in_err-run.ensures in
    λ _. subst (λ r. EndsRun IsRecordOfBench contents v coming start c.args.out.now r now c.run.new.out) (sym is)
    (subst (λ (b : BenchState). EndsRun IsRecordOfBench contents v coming b c.args.out.now (Err fault) now c.run.new.out) made ended)

pub returns-clause-runs : goal.returns-clause-runs
returns-clause-runs g c =
    let ran = c.in_ok-run.ensures in
    let made = without_plan c.args.config.shows_faults c.args.config.timing c.args.config.names c.args.config.config c.args.config.rx_capacity c.in_ok-state.state c.new-plan.result c.in_ok-state.ensures.made c.new-plan.ensures in
    λ _. (
      ran.0,
      ran.1,
      ran.2,
      ran.3,
      ran.4,
      subst (λ (b : BenchState). Ran g.W.Write.contents (g.F.FaultSource.verdicts c.args.config.script) ran.0 b c.args.out.now ran.1 c.run.new.out) made ran.5,
      subst (λ (b : BenchState). IsRecordOfBench c.into_record.result b) (sym ran.6) c.into_record.ensures.record,
    )

pub returns-clause-config : goal.returns-clause-config
returns-clause-config g c =
    let ran = c.in_ok-run.ensures in
    c.into_record.ensures.record.config ∙ ap (λ (b : BenchState). b.bus.journal.config) (sym ran.6)
    ∙ carried_out (g.F.FaultSource.verdicts c.args.config.script) ran.0 c.in_ok-state.state ran.5.text ran.1 ran.5.carried ∙ ap (λ (b : BenchState). b.bus.journal.config) c.in_ok-state.ensures.made
