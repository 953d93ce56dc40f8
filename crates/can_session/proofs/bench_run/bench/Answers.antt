use Rattle.std.proofs.Common.{subst}
use Rattle.can_rules.specs.Plans.{PlanSeen}
use Rattle.can_session.specs.Runs.{at_start_with, EndsOver}
use Rattle.can_session.proofs.bench_run.bench.Goals as goal

pub returns-clause-runs : goal.returns-clause-runs
returns-clause-runs g c =
    let config = c.args.config in
    λ good. subst (λ (plan : PlanSeen). EndsOver g.W.Write.contents (g.F.FaultSource.verdicts config.script) (g.R.Read.remaining c.args.input) (at_start_with config.shows_faults plan config.timing config.names config.config config.rx_capacity) c.args.out.now c.bench_noting.result c.bench_noting.new.out)
    c.new-plan.ensures (c.bench_noting.ensures.runs good)
