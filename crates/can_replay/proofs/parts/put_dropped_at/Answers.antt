use Rattle.std.proofs.Common.{slice_get}
use Rattle.can_replay.proofs.Lists.{no_words}
use Rattle.can_replay.proofs.Items.{no_dropped}
use Rattle.can_replay.proofs.parts.put_dropped_at.Goals as goal

pub returns-in-None : goal.returns-in-None
returns-in-None c = no_words c.args.out.now.items _ (no_dropped (slice_get c.args.state.now.sockets c.args.place) c.args.seen c.in-None.ensures)
