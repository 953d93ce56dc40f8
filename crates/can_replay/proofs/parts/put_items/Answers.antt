use Rattle.std.proofs.Common.{slice_get, drop, sym, ◌∙◌}
use Rattle.can_bus.specs.Stats.{waiting_at}
use Rattle.can_replay.specs.EventsText.{put_words}
use Rattle.can_replay.proofs.Lists.{no_words}
use Rattle.can_replay.proofs.Items.{item_more, items_whole, no_put}
use Rattle.can_replay.proofs.parts.put_items.Goals as goal

pub returns-in_default : goal.returns-in_default
returns-in_default c = no_words c.args.out.now.items _ (no_put (slice_get c.args.state.now.sockets c.args.place) c.args.seen (sym c.in_default.is ∙ c.socket_at.ensures))

pub loop-k-preserved : goal.loop-k-preserved
loop-k-preserved c =
    let items = waiting_at c.args.state.now.sockets c.args.place in
    item_more c.in-Some.id.0 items c.loop-k.k c.args.out.now.items c.loop-k.out.items c.put_item_at.new.out.items (put_words c.in-Some.id.0 (drop c.args.seen.unread items)) c.loop-k.invariant c.in_ok-put_item_at.ensures

pub returns : goal.returns
returns c = items_whole (slice_get c.args.state.now.sockets c.args.place) c.in-Some.id c.in-Some.counts c.args.seen c.loop-k.k c.args.out.now.items c.loop-k.out.items (sym c.in-Some.is ∙ c.socket_at.ensures) c.loop-k-test.false c.loop-k.invariant
