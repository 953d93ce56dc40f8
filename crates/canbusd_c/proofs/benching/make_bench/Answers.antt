use Rattle.std.proofs.Common.{Err, ap, ◌∙◌}
use Rattle.can_session.specs.declared.bench_run.BenchFault.{BenchFault}
use Rattle.canbusd_c.proofs.Benches.{bench_of, no_bench}
use Rattle.canbusd_c.proofs.benching.make_bench.Goals as goal

pub returns-in-Ok-new-clause-made : goal.returns-in-Ok-new-clause-made
returns-in-Ok-new-clause-made c =
    bench_of c.args.names.now c.args.config.now c.args.capacity c.args.shows_faults c.args.faults.now c.in_ok-names.names c.in_ok-timing.timing c.count.result c.in_ok-config.config c.in_ok-plan.plan c.in-Ok-new.bench.value
    c.in_ok-names.ensures.read c.in_ok-names.ensures.good c.in_ok-timing.ensures.read c.in_ok-timing.ensures.good c.count.ensures.count c.in_ok-config.ensures.read c.in_ok-plan.ensures.read c.in-Ok.ensures.good
    (c.in-Ok-new.ensures.ok ∙ c.in-Ok.ensures.made)

pub returns-clause-why : goal.returns-clause-why
returns-clause-why c =
    no_bench c.args.names.now c.args.config.now c.args.capacity c.args.faults.now c.in_ok-names.names c.count.result c.in_ok-config.config c.in-Err.fault c.args.line.now c.plan_in.new.line c.bench_code.result c.bench_code.new.line
    c.in_ok-names.ensures.read c.count.ensures.count c.in_ok-config.ensures.read c.in_ok-plan.ensures.same c.in-Err.ensures.faults (λ bad. c.in-Err.ensures.bad.0 (ap (λ (f : BenchFault). Err f) bad))
    c.bench_code.ensures.0 c.bench_code.ensures.1
