use Rattle.std.proofs.Common.{◌≡◌, ◌++◌, drop}
use Rattle.can_bus.specs.Stats.{waiting_at}
use Rattle.can_replay.specs.EventsText.{put_words}
use Rattle.can_replay.specs.Words.{parted}
use Rattle.can_replay.proofs.parts.put_items.Given as goal

-- The loop invariant: the output so far and the remaining output together are the whole output.
abbrev pub invariant-loop-k : goal.invariant-loop-k
invariant-loop-k l =
    l.out.items ++ parted (put_words l.id.0 (drop l.k (waiting_at l.state.sockets l.place)))
    ≡ l.initial.out.items ++ parted (put_words l.id.0 (drop l.fn.seen.unread (waiting_at l.state.sockets l.place)))
