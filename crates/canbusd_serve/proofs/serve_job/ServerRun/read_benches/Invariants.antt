use Rattle.std.proofs.Common.{take}
use Rattle.canbusd_serve.specs.Served.{AreBenches, AreBusesTimed}
use Rattle.canbusd_serve.proofs.serve_job.ServerRun.read_benches.Given as goal

abbrev pub invariant-loop-place : goal.invariant-loop-place
invariant-loop-place g l =
    AreBenches l.fn.self.options.now (take l.place l.bus-items) l.benches.items × AreBusesTimed l.fn.self.options.now l.benches.items
