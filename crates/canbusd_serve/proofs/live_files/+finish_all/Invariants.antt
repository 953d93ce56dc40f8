use Rattle.std.proofs.Common.{length}
use Rattle.canbusd_serve.proofs.live_files.+finish_all.Given as goal

abbrev pub decreases-finish_all : goal.decreases-finish_all
decreases-finish_all g l = length l.files.now
