use Rattle.std.specs.Prelude.{List, [], ◌∷◌, ◌++◌}
use Rattle.can_event.specs.declared.attempt.Tried.{Tried}
use Rattle.can_event.specs.declared.attempt.Attempt.TheVariants as attempt
use Rattle.can_event.specs.declared.entry.Entry.{Entry}
use Rattle.can_event.specs.declared.reply.Reply.{Reply}
use Rattle.can_event.specs.declared.reply.Reply.TheVariants as reply

-- The frames that were tried in a history.

-- The tape after one more entry (own choice).
abbrev pub tape_after : Reply → List Tried → List Tried
tape_after (reply.Attempted (attempt.Tried t)) before = before ++ t ∷ []
tape_after _ before = before

-- The attempts that tried a frame, in order. The number of an attempt is its place in this list.
abbrev pub tape : List Entry → List Tried
tape [] = []
tape (e ∷ past) = tape_after e.reply (tape past)
