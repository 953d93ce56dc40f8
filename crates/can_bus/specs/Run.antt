use Rattle.std.specs.Prelude.{◌≡◌, ◌<◌, ◌≤◌, List, [], ◌∷◌, length}
use Rattle.can_event.specs.declared.event.Event.{Event}
use Rattle.can_event.specs.declared.reply.Reply.{Reply}
use Rattle.can_event.specs.declared.reply.Reply.TheVariants as reply
use Rattle.can_event.specs.declared.refusal.Refusal.TheVariants as refusal
use Rattle.can_event.specs.declared.entry.Entry.{Entry}
use Rattle.can_event.specs.declared.bus_config.BusConfig.{BusConfig}
use Rattle.can_event.specs.Replies.{Suits}
use Rattle.can_record.specs.Journal.{Journal}
use Rattle.can_bus.specs.Legal.{legal_reply}
use Rattle.can_bus.specs.Answer.{TakesMemory}

-- The history after an event: it is noted with its reply, unless the record was full or memory was refused.
abbrev pub history_after : Event → Reply → List Entry → List Entry
history_after e (reply.Refused refusal.RecordFull) past = past
history_after e (reply.Refused refusal.NoMemory) past = past
history_after e r past = record { event = e; reply = r } ∷ past

-- The reply is the one that the entries before it require. Only calls that take memory may reply with no memory.
abbrev pub IsAnswer : BusConfig → List Entry → Event → Reply → Type 0
IsAnswer c past e (reply.Refused refusal.RecordFull) = c.limit ≤ length past
IsAnswer c past e (reply.Refused refusal.NoMemory) = (length past < c.limit) × TakesMemory e (legal_reply c past e)
IsAnswer c past e r = (length past < c.limit) × (r ≡ legal_reply c past e)

-- The event was answered and noted, with a reply of the event's kind.
pub record IsAnswered (old : Journal) (e : Event) (r : Reply) (new : Journal) : Type 0 where
  pub answer : IsAnswer old.config old.history e r
  pub after : new ≡ record old { history = history_after e r old.history }
  pub suits : Suits e r

-- The history after successive events with their replies.
unfoldable pub history_after_all : List Event → List Reply → List Entry → List Entry
history_after_all [] rs past = past
history_after_all (e ∷ es) [] past = past
history_after_all (e ∷ es) (r ∷ rs) past = history_after_all es rs (history_after e r past)

-- Each event has one reply, which is its answer.
unfoldable pub AreAnswers : BusConfig → List Entry → List Event → List Reply → Type 0
AreAnswers c past [] [] = Unit {0}
AreAnswers c past (e ∷ es) (r ∷ rs) = IsAnswer c past e r × AreAnswers c (history_after e r past) es rs
AreAnswers c past [] (r ∷ rs) = ⊥
AreAnswers c past (e ∷ es) [] = ⊥
