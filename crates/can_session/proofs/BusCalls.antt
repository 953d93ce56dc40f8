-- The replies of a bus to an event are the replies that a step of a port allows.
use Rattle.std.proofs.Common.{◌≡◌, Bool, Result, Ok, Err, refl}
use Rattle.can_event.specs.declared.event.Event.{Event}
use Rattle.can_event.specs.declared.event.Event.TheVariants as event
use Rattle.can_event.specs.declared.reply.Reply.{Reply}
use Rattle.can_event.specs.declared.reply.Reply.TheVariants as reply
use Rattle.can_event.specs.declared.refusal.Refusal.{Refusal}
use Rattle.can_event.specs.declared.refusal.Refusal.TheVariants as refusal
use Rattle.can_record.specs.Journal.{Journal}
use Rattle.can_event.specs.declared.received.Received.{Received}
use Rattle.can_event.specs.declared.socket_id.SocketId.{SocketId}
use Rattle.can_event.specs.Replies.{received_into, taken_item, taken_reply}
use Rattle.can_bus.specs.Answer.{Answers, Noted, Refuses}
use Rattle.can_record.specs.Outcomes.{done_reply}
use Rattle.can_bus.specs.Run.{IsAnswer, history_after}
use Rattle.can_bus.proofs.Fitting.{legal_is_spelled}
use Rattle.can_dialog.specs.declared.port.PortRefusal.TheVariants as port
use Rattle.can_session.specs.BusSteps.{NamedBus, BusStep, IsEvent, passed_on}
use Rattle.can_dialog.specs.Calls.{Replies}
use Rattle.can_dialog.specs.Calls.Call.{Receive}

-- the bus refuses an event
refuses : (old new : Journal) (e : Event) (why : Refusal) → IsAnswer old.config old.history e (reply.Refused why) → new ≡ record old { history = history_after e (reply.Refused why) old.history } → Refuses old e why new
refuses old new e refusal.RecordFull a is = (a, is)
refuses old new e refusal.NoMemory a is = (a.0, a.1, is)
refuses old new e why a is = record { room = a.0; lawful = a.1; new_is = is }

module _ (old new : NamedBus) (names : new.names ≡ old.names) (plan : new.plan ≡ old.plan) (schedule : new.schedule ≡ old.schedule) where
  given : {A : Type 0} (told : A → Reply) (a : A) (e : Event) → Noted old.journal e (told a) new.journal → IsEvent told old e (Ok a) new
  given told a e noted = (Ok a, refl, noted, names, plan, schedule)

  refused : {A : Type 0} (told : A → Reply) (why : Refusal) (e : Event) → IsAnswer old.journal.config old.journal.history e (reply.Refused why) → new.journal ≡ record old.journal { history = history_after e (reply.Refused why) old.journal.history }
      → IsEvent told old e (Err (port.Bus why)) new
  refused told why e a is = (Err why, refl, refuses old.journal new.journal e why a is, names, plan, schedule)

  -- the reply is a valid step for this kind of event because it is the legal reply
  pub gives : (e : Event) (r : Reply) → IsAnswer old.journal.config old.journal.history e r → new.journal ≡ record old.journal { history = history_after e r old.journal.history } → Replies BusStep old e r new
  gives (event.Open iface capacity) (reply.Opened s) a is = given (λ x. reply.Opened x) s _ (record { room = a.0; lawful = a.1; new_is = is })
  gives (event.Close socket) (reply.Closed counts) a is = given (λ x. reply.Closed x) counts _ (record { room = a.0; lawful = a.1; new_is = is })
  gives (event.SetFilters socket filters) reply.Done a is = given done_reply tt _ (record { room = a.0; lawful = a.1; new_is = is })
  gives (event.SetOption socket option) reply.Done a is = given done_reply tt _ (record { room = a.0; lawful = a.1; new_is = is })
  gives (event.Send socket frame) (reply.Sent number) a is = given (λ x. reply.Sent x) number _ (record { room = a.0; lawful = a.1; new_is = is })
  gives (event.Receive socket) (reply.Received item) a is = given (λ x. reply.Received x) item _ (record { room = a.0; lawful = a.1; new_is = is })
  gives (event.Attempt moment verdict) (reply.Attempted attempt) a is = given reply.Attempted attempt _ (record { room = a.0; lawful = a.1; new_is = is })
  gives (event.Restart iface moment) reply.Done a is = given done_reply tt _ (record { room = a.0; lawful = a.1; new_is = is })
  gives (event.Down iface moment) reply.Done a is = given done_reply tt _ (record { room = a.0; lawful = a.1; new_is = is })
  gives (event.Open iface capacity) (reply.Refused why) a is = refused (λ x. reply.Opened x) why _ a is
  gives (event.Close socket) (reply.Refused why) a is = refused (λ x. reply.Closed x) why _ a is
  gives (event.Send socket frame) (reply.Refused why) a is = refused (λ x. reply.Sent x) why _ a is
  gives (event.Receive socket) (reply.Refused why) a is = refused (λ x. reply.Received x) why _ a is
  gives (event.Attempt moment verdict) (reply.Refused why) a is = refused reply.Attempted why _ a is
  gives e (reply.Refused why) a is = refused done_reply why _ a is
  gives e r a is = absurd (legal_is_spelled old.journal.config old.journal.history e r a.1)

-- a receive into a buffer is the same event as an ordinary receive
pub receives_into : (old new : NamedBus) (s : SocketId) (room : Received) (outcome : Result Bool Refusal) → Answers (taken_reply room) old.journal (event.Receive s) outcome new.journal → new.names ≡ old.names → new.plan ≡ old.plan → new.schedule ≡ old.schedule
    → BusStep old (Receive s) (received_into room (passed_on outcome)) new
receives_into old new s room (Ok taken) answers names plan schedule = (Ok (taken_item room taken), refl, answers, names, plan, schedule)
receives_into old new s room (Err why) answers names plan schedule = (Err why, refl, answers, names, plan, schedule)
