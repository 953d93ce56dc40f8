use Rattle.std.proofs.Common.{length}
use Rattle.canbusd_serve.proofs.ends.+put_each_end.Given as goal

abbrev pub decreases-put_each_end : goal.decreases-put_each_end
decreases-put_each_end g l = length l.buses.now
