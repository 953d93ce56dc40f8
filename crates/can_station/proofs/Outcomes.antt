use Rattle.std.proofs.Common.{◌≡◌, Result, Ok, Err, ap, sym, ◌∙◌, subst}
use Rattle.can_event.specs.Replies.{told}
use Rattle.can_event.specs.declared.event.Event.{Event}
use Rattle.can_event.specs.declared.refusal.Refusal.{Refusal}
use Rattle.can_event.specs.declared.refusal.Refusal.TheVariants as refusal
use Rattle.can_event.specs.declared.reply.Reply.{Reply}
use Rattle.can_bus.specs.Answer.{Answers, Noted}
use Rattle.can_record.specs.Journal.{Journal}
use Rattle.can_bus.specs.Run.{IsAnswer, history_after}

-- The bus after a send or a receive. Both return their value directly instead of in a reply. A call that returns a value is noted.

module _ {A : Type 0} (value : A → Reply) (e : Event) (old new : Journal) (notes : (a : A) → Noted old e (value a) new → new ≡ record old { history = history_after e (value a) old.history }) (lawful : (a : A) → Noted old e (value a) new → IsAnswer old.config old.history e (value a)) where
  leaves : (outcome : Result A Refusal) → Answers value old e outcome new → new ≡ record old { history = history_after e (told value outcome) old.history }
  leaves (Ok a) noted = notes a noted
  leaves (Err refusal.RecordFull) full = full.1
  leaves (Err refusal.NoMemory) refused = refused.2
  leaves (Err why) noted = noted.new_is

  pub bus_after : (outcome : Result A Refusal) (r : Reply) → Answers value old e outcome new → r ≡ told value outcome → new ≡ record old { history = history_after e r old.history }
  bus_after outcome r answers is = leaves outcome answers ∙ ap (λ (x : Reply). record old { history = history_after e x old.history }) (sym is)

  answers_so : (outcome : Result A Refusal) → Answers value old e outcome new → IsAnswer old.config old.history e (told value outcome)
  answers_so (Ok a) noted = lawful a noted
  answers_so (Err refusal.RecordFull) full = full.0
  answers_so (Err refusal.NoMemory) refused = (refused.0, refused.1)
  answers_so (Err why) noted = (noted.room, noted.lawful)

  pub answer_of : (outcome : Result A Refusal) (r : Reply) → Answers value old e outcome new → r ≡ told value outcome → IsAnswer old.config old.history e r
  answer_of outcome r answers is = subst (IsAnswer old.config old.history e) (sym is) (answers_so outcome answers)
