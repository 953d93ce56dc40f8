use Rattle.std.specs.Prelude.{ℕ}
use Rattle.can_fault.specs.declared.verdict.Verdict.{Verdict}
use Rattle.can_event.specs.declared.attempt.Attempt.{Attempt}
use Rattle.can_event.specs.declared.entry.Entry.{Entry}
use Rattle.can_event.specs.declared.event.Event.TheVariants as event
use Rattle.can_event.specs.declared.reply.Reply.{Reply}
use Rattle.can_event.specs.declared.reply.Reply.TheVariants as reply
use Rattle.can_event.specs.Replies.{entry_of}

-- The result of a call, as a reply in the record.

-- The entry of an attempt with this result (own choice).
abbrev pub attempt_entry : ℕ → Verdict → Attempt → Entry
attempt_entry m v a = entry_of (event.Attempt m v) (reply.Attempted a)

-- The reply to a call that has no result (own choice).
abbrev pub done_reply : Unit {0} → Reply
done_reply done = reply.Done
