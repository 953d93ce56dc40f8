use Rattle.std.proofs.Common.{slice_set, ap, sym, ◌∙◌, arith}
use Rattle.std.proofs.lemmas.List.Edits.{map_over_more}
use Rattle.can_bus.specs.News.{frame_posts}
use Rattle.can_bus.specs.State.{reached}
use Rattle.can_bus.proofs.posting.post_frame.Goals as goal

pub loop-socket-preserved : goal.loop-socket-preserved
loop-socket-preserved g c =
    ap (slice_set c.loop-socket.sockets c.loop-socket.socket-index) (c.post_frame_to.ensures ∙ ap (reached (frame_posts c.args.tried.now c.args.pending.now)) (sym c.socket-item.is))
    ∙ map_over_more (reached (frame_posts c.args.tried.now c.args.pending.now)) c.args.sockets.now c.loop-socket.sockets c.loop-socket.socket-index c.socket-item.result (omega arith) c.loop-socket.invariant c.socket-item.is
