use Rattle.std.proofs.Common.{slice_get, sym, ◌∙◌}
use Rattle.can_replay.specs.inner.Seen.{counts_in}
use Rattle.can_replay.proofs.Items.{counts_seen}
use Rattle.can_replay.proofs.Lists.{taken_next}
use Rattle.can_replay.proofs.before.see_sockets_anew.Goals as goal

pub loop-place-preserved : goal.loop-place-preserved
loop-place-preserved c = taken_next counts_in c.args.state.now.sockets c.loop-place.sockets.items c.push.new.self.items c.loop-place.place c.unwrap.result.1 c.loop-place.invariant (counts_seen (slice_get c.args.state.now.sockets c.loop-place.place) c.unwrap.result (sym c.unwrap.ensures ∙ c.socket_at.ensures)) c.in_ok-push.ensures.items
