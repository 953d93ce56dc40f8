use Rattle.std.proofs.Common.{◌+◌, take, sym, subst, rules}
use Rattle.canbusd_serve.specs.Served.{AreBenches, AreBusesTimed}
use Rattle.canbusd_serve.proofs.Serving.{benches-more, next-fails, timed-more}
use Rattle.canbusd_serve.proofs.serve_job.ServerRun.read_benches.Goals as goal

pub loop-place-preserved : goal.loop-place-preserved
loop-place-preserved g c =
    let o = c.args.self.now.options.now in
    let buses = c.deref-bus-items.result.now in
    let benches = c.loop-place.benches.items in
    let i = c.loop-place.place in
    let bench = c.in_ok-bench.bench in (
      subst (AreBenches o (take (i + 1) buses)) (sym c.in-Ok.ensures.items)
          (benches-more o buses benches i _ bench c.loop-place-test.true (search rules) c.loop-place.invariant.0 c.in_ok-bench.ensures.made),
      subst (AreBusesTimed o) (sym c.in-Ok.ensures.items)
          (timed-more o buses benches i bench c.loop-place-test.true c.loop-place.invariant.0 c.loop-place.invariant.1 c.in_ok-bench.ensures.timed),
    )

pub returns-in_err-bench-clause-fault : goal.returns-in_err-bench-clause-fault
returns-in_err-bench-clause-fault g c =
    next-fails c.args.self.now.options.now c.deref-bus-items.result.now c.loop-place.benches.items c.loop-place.place _ c.in_err-bench.field-0.0 c.from_residual.result c.deref-bus-items.ensures.value c.loop-place-test.true c.loop-place.invariant.0
    c.in_err-bench.ensures.fault c.from_residual.ensures.1
