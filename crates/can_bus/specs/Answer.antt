use Rattle.std.specs.Prelude.{◌≡◌, ◌<◌, ◌≤◌, ◌∷◌, length, Result, Ok, Err}
use Rattle.can_event.specs.declared.event.Event.{Event}
use Rattle.can_event.specs.declared.event.Event.TheVariants.{Open, SetFilters}
use Rattle.can_event.specs.declared.reply.Reply.{Reply}
use Rattle.can_event.specs.declared.reply.Reply.TheVariants as reply
use Rattle.can_event.specs.declared.refusal.Refusal.{Refusal}
use Rattle.can_event.specs.declared.refusal.Refusal.TheVariants as refusal
use Rattle.can_record.specs.Journal.{Journal}
use Rattle.can_bus.specs.Legal.{legal_reply}

-- A call that is answered from the history and noted there.
pub record Noted (old : Journal) (event : Event) (r : Reply) (new : Journal) : Type 0 where
  pub room : length old.history < old.config.limit
  pub lawful : r ≡ legal_reply old.config old.history event
  pub new_is : new ≡ record old { history = record { event = event; reply = r } ∷ old.history }

-- Only these calls take memory: an open that is not refused otherwise, and set_filters, which copies the filters before
-- it looks up the socket.
abbrev pub TakesMemory : Event → Reply → Type 0
TakesMemory (Open i capacity) (reply.Opened s) = Unit {0}
TakesMemory (SetFilters s filters) r = Unit {0}
TakesMemory _ _ = ⊥

-- A call was refused with this reason. The journal does not change if the refusal is not noted.
abbrev pub Refuses : Journal → Event → Refusal → Journal → Type 0
Refuses old event refusal.RecordFull new = (old.config.limit ≤ length old.history) × (new ≡ old)
Refuses old event refusal.NoMemory new =
    (length old.history < old.config.limit)
    × TakesMemory event (legal_reply old.config old.history event)
    × (new ≡ old)
Refuses old event why new = Noted old event (reply.Refused why) new

-- A call returns this result and leaves this journal; `told` makes the reply from the result.
abbrev pub Answers : {A : Type 0} → (A → Reply) → Journal → Event → Result A Refusal → Journal → Type 0
Answers told old event (Ok a) new = Noted old event (told a) new
Answers told old event (Err why) new = Refuses old event why new
