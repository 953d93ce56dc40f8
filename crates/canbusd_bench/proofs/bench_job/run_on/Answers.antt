use Rattle.std.proofs.Common.{Ok, sym, subst, ◌∙◌}
use Rattle.can_fault.specs.Sources.{no_verdicts}
use Rattle.can_event.specs.Events.{IsConfig}
use Rattle.can_session.specs.Runs.{EndsOver}
use Rattle.canbusd_bench.specs.Benched.{StopsBy, begun}
use Rattle.canbusd_bench.proofs.Benching.{ended, stopped}
use Rattle.canbusd_bench.proofs.bench_job.run_on.Goals as goal

pub returns-in-Ok-clause-ends : goal.returns-in-Ok-clause-ends
returns-in-Ok-clause-ends g c =
    let e = c.in-Ok.ensures in
    subst (λ x. EndsOver g.W.Write.contents no_verdicts (g.R.Read.remaining x) (begun c.args.plan c.args.options.now c.args.names) c.args.output.now (Ok c.in-Ok.record) c.bench_noting.new.out) c.new-input.ensures
    (ended g.W.Write.contents c.bus_config.result c.args.options.now c.args.names _ _ c.args.output.now c.bench_noting.new.out c.in-Ok.record c.bus_config.ensures (record { bad = e.bad; untouched = e.untouched; runs = e.runs }))

pub returns-clause-fault : goal.returns-clause-fault
returns-clause-fault g c =
    let e = c.in-Err.ensures in
    subst (λ x. StopsBy g.W.Write.contents c.args.options.now c.args.names c.args.plan (g.R.Read.remaining x) c.args.output.now c.with.result.error c.bench_noting.new.out) c.new-input.ensures
    (stopped g.W.Write.contents c.bus_config.result c.args.options.now c.args.names _ _ c.args.output.now c.bench_noting.new.out c.in-Err.fault c.with.result.error c.bus_config.ensures c.with.ensures (record { bad = e.bad; untouched = e.untouched; runs = e.runs }))

pub returns-in-Ok-clause-config : goal.returns-in-Ok-clause-config
returns-in-Ok-clause-config g c = c.in-Ok.ensures.config ∙ c.bus_config.ensures

pub returns-in-Ok-clause-proper : goal.returns-in-Ok-clause-proper
returns-in-Ok-clause-proper g c = subst IsConfig (sym c.in-Ok.ensures.config) c.in-Ok.ensures.good.bus
