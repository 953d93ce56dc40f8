use Rattle.can_server.proofs.Batching.{Waits}
use Rattle.can_server.proofs.batch.write_texts.Given as goal

abbrev pub invariant-loop-room : goal.invariant-loop-room
invariant-loop-room g l = Waits g.W.Write.contents l.fn.out l.rooms l.room-index l.out l.text.items
