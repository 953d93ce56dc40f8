use Rattle.std.proofs.Common.{◌≡◌, [], ◌++◌, drop, reverse}
use Rattle.can_replay.specs.Histories.{IsHistory}
use Rattle.can_replay.specs.Replies.{replies_after}
use Rattle.can_audit.proofs.replies.replies.Given as goal

abbrev pub invariant-loop-event : goal.invariant-loop-event
invariant-loop-event l = record {
  lawful : IsHistory l.config (reverse l.past.items);
  so_far : l.replies.items ++ replies_after l.config (reverse l.past.items) (drop l.event-index l.events) ≡ replies_after l.config [] l.fn.events;
}
