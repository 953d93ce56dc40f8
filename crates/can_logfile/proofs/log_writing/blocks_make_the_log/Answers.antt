use Rattle.can_logfile.proofs.Fronts.{blocks-log}
use Rattle.can_logfile.proofs.log_writing.blocks_make_the_log.Goals as goal

pub returns : goal.returns
returns c = blocks-log
