use Rattle.std.proofs.Common.{inr}
use Rattle.canbusd_bench.proofs.Benching.{if_err, ran}
use Rattle.canbusd_bench.proofs.bench_job.run_scripted.Goals as goal

pub returns-clause-run : goal.returns-clause-run
returns-clause-run g c =
    ran _ g.W.Write.contents c.args.options.now c.args.names c.in_ok-plan.plan _ c.args.output.now c.run_on.new.output c.run_on.result c.in_ok-plan.ensures.plan c.run_on.ensures.ends c.run_on.ensures.config c.run_on.ensures.proper c.run_on.ensures.legal

pub returns-clause-fault : goal.returns-clause-fault
returns-clause-fault g c =
    if_err c.run_on.result _ _ c.run_on.ensures.fault (λ failure. λ stops. inr (c.in_ok-plan.plan, c.in_ok-plan.ensures.plan, stops))
