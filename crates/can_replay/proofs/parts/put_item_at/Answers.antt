use Rattle.std.proofs.Common.{slice_get}
use Rattle.can_bus.specs.Stats.{waiting_at}
use Rattle.can_replay.proofs.Lists.{no_words}
use Rattle.can_replay.proofs.Items.{no_item}
use Rattle.can_replay.proofs.parts.put_item_at.Goals as goal

pub returns-in-None : goal.returns-in-None
returns-in-None c = no_words c.args.out.now.items _ (no_item c.args.id.0 (slice_get (waiting_at c.args.state.now.sockets c.args.place) c.args.k) c.in-None.ensures)
