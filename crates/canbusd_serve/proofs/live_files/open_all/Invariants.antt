use Rattle.std.proofs.Common.{◌≡◌, length}
use Rattle.std.specs.declared.fs.File.{File}
use Rattle.std.specs.declared.io.traits.Write.{contents-default}
use Rattle.canbusd_serve.specs.LongRuns.{AreBegun}
use Rattle.canbusd_serve.proofs.live_files.open_all.Given as goal

abbrev pub invariant-loop-bus : goal.invariant-loop-bus
invariant-loop-bus g l = (length l.all.items ≡ l.bus-index) × AreBegun (contents-default File) l.all.items
