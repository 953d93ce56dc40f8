use Rattle.std.proofs.Common.{inl, sym, subst, ◌∙◌}
use Rattle.canbusd_bench.specs.Benched.{IsStopped}
use Rattle.canbusd_bench.proofs.bench_job.run_bench.Goals as goal

pub returns-clause-fault : goal.returns-clause-fault
returns-clause-fault g c =
    inl (subst (λ f. IsStopped g.W.Write.contents c.args.options.now (g.R.Read.remaining c.args.input) c.args.output.now f c.run_out.new.output) (sym (c.without.ensures ∙ c.without-failure.ensures)) c.in-Err.ensures.fault)
