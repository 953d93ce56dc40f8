use Rattle.std.proofs.Common.{IsTrue}
use Rattle.canbusd_serve.proofs.serve_files.save_all.Given as goal

abbrev pub invariant-loop-bus : goal.invariant-loop-bus
invariant-loop-bus g l = IsTrue l.initial.reporter.has_reported → IsTrue l.reporter.has_reported
