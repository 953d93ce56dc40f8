use Rattle.std.specs.Prelude.{◌≡◌, ℕ, ◌+◌, ◌<◌, ◌≤◌, ◌⊎◌, Bool, true, false, List, [], length, reverse}
use Rattle.std.specs.Prelude.{map, All, Option, Some, None, is_some, Result, Ok, Err, if◌then◌else◌}
use Rattle.can_event.specs.declared.entry.Entry.{Entry}
use Rattle.can_event.specs.declared.event.Event.{Event}
use Rattle.can_event.specs.declared.event.Event.TheVariants as event
use Rattle.can_event.specs.declared.reply.Reply.{Reply}
use Rattle.can_event.specs.declared.reply.Reply.TheVariants as reply
use Rattle.can_event.specs.declared.received.Received.{Received}
use Rattle.can_event.specs.declared.refusal.Refusal.{Refusal}
use Rattle.can_event.specs.declared.refusal.Refusal.TheVariants as refusal
use Rattle.can_event.specs.declared.socket_id.SocketId.{SocketId}
use Rattle.can_event.specs.declared.attempt.Attempt.{Attempt}
use Rattle.can_frame.specs.Frames.{CanFrame}
use Rattle.can_fault.specs.declared.verdict.Verdict.{Verdict}
use Rattle.can_record.specs.Journal.{Journal, Kept}
use Rattle.can_bus.specs.Heads.{next_head}
use Rattle.can_bus.specs.Legal.{IsLegal}
use Rattle.can_bus.specs.Run.{IsAnswer, history_after}
use Rattle.can_record.specs.Tapes.{tape}
use Rattle.can_fault.specs.Sources.{VerdictMap, verdict_in}
use Rattle.can_record.specs.Records.{ListedEntries}
use Rattle.can_rules.specs.Plans.{PlanSeen, Injected, given, plan_after}
use Rattle.can_rules.specs.declared.rules.RuleRefusal.{RuleRefusal}
use Rattle.can_event.specs.Events.{IsLongConfig}
use Rattle.can_event.specs.Replies.{receive_reply, told}
pub use Rattle.can_event.specs.Replies.{Suits}
use Rattle.can_roll.specs.Lists.{row, Distinct, AllBelow}
use Rattle.can_roll.specs.Seen.{SlipSeen}
use Rattle.can_station.specs.Held.{Held, StationSeen, NoPassLeft, held_after, slip_after}
use Rattle.can_station.specs.Marks.{IsMarked, marked}
use Rattle.can_station.specs.declared.refusals.StationRefusal.{StationRefusal}
use Rattle.can_station.specs.declared.refusals.StationRefusal.TheVariants as station

-- Passes as callers see them and the effects of calls on a station (own).

-- A pass: the number of its station, the number of the pass, its calls (newest first), and whether it keeps them as a
-- list that a program can read.
pub record PassSeen : Type 0 where
  pub number : ℕ
  pub pass : ℕ
  pub calls : List Entry
  pub keeps : Bool

-- A new pass that has not made a call yet.
abbrev pub new_pass : ℕ → ℕ → PassSeen
new_pass number pass = record { number = number; pass = pass; calls = []; keeps = true }

-- A new light pass, which keeps no list and has not made a call yet.
abbrev pub new_light_pass : ℕ → ℕ → PassSeen
new_light_pass number pass = record { number = number; pass = pass; calls = []; keeps = false }

-- The pass with this slip. It keeps a list if `listed` is present.
abbrev pub pass_seen : SlipSeen → Option (List Entry) → PassSeen
pass_seen slip listed = record { number = slip.number; pass = slip.pass; calls = slip.calls; keeps = is_some listed }

-- The calls that a program can read from a pass, newest first: all calls, or none if the pass keeps no list.
abbrev pub kept_calls : PassSeen → List Entry
kept_calls p = if p.keeps then p.calls else []

-- The pass after a call. The call is recorded with its reply, unless the record was full or an allocation failed.
abbrev pub pass_after : Event → Reply → PassSeen → PassSeen
pass_after e r p = record p { calls = history_after e r p.calls }

-- The caller's result matches the reply of the bus: the value on success, the bus's refusal on failure.
abbrev pub ReportsReply : {A : Type 0} → (A → Reply) → Result A StationRefusal → Reply → Type 0
ReportsReply told (Ok a) r = r ≡ told a
ReportsReply told (Err (station.Bus why)) r = r ≡ reply.Refused why
ReportsReply told (Err station.WrongStation) r = ⊥

-- The entries of a pass's list, newest first, if the pass keeps a list.
abbrev pub calls_listed : Option ListedEntries → Option (List Entry)
calls_listed None = None
calls_listed (Some calls) = Some (reverse calls.entries)

-- If the pass keeps a list, the list has exactly these calls.
abbrev pub AreListedCalls : Option (List Entry) → List Entry → Type 0
AreListedCalls None calls = Unit {0}
AreListedCalls (Some listed) calls = listed ≡ calls

-- The list has memory for any call except a close: room for the call, room for a later close, and spare memory for a
-- wide entry. A pass without a list needs no memory.
abbrev pub HasMemoryForCall : Option ListedEntries → Type 0
HasMemoryForCall None = Unit {0}
HasMemoryForCall (Some calls) = (length calls.entries + 1 < calls.room) × (calls.spare ≡ true)

-- If the pass keeps a list, the list has room for one more call.
abbrev pub HasPlaceForCall : Option ListedEntries → Type 0
HasPlaceForCall None = Unit {0}
HasPlaceForCall (Some calls) = length calls.entries < calls.room

-- The list has memory for this call. A close needs room for only one entry, because it is never wide.
abbrev pub IsReadyFor : Event → Option ListedEntries → Type 0
IsReadyFor (event.Close s) calls = HasPlaceForCall calls
IsReadyFor e calls = HasMemoryForCall calls

-- The event is a close, and the list has room for it.
abbrev pub CanClose : Event → Option ListedEntries → Type 0
CanClose (event.Close s) calls = HasPlaceForCall calls
CanClose e calls = ⊥

-- The result of a call on the station with this number, and the caller's pass after the call.
abbrev pub Called : {A : Type 0} → (A → Reply) → ℕ → PassSeen → Event → Result A StationRefusal → PassSeen → Type 0
Called told number old e (Ok a) new = (old.number ≡ number) × (new ≡ pass_after e (told a) old)
Called told number old e (Err (station.Bus why)) new =
    ((why ≡ refusal.NoMemory) ⊎ (old.number ≡ number)) × (new ≡ pass_after e (reply.Refused why) old)
Called told number old e (Err station.WrongStation) new = ¬ (old.number ≡ number) × (new ≡ old)

-- The bus gives this reply to the event in this state of a station.
abbrev pub IsAnsweredIn : {F : Type 0} → Held F → Event → Reply → Type 0
IsAnsweredIn held e r = IsAnswer held.journal.config held.journal.history e r

-- The event is carried out for the pass with this slip. The bus gives its reply, and the event and the reply are noted
-- in the record and in the slip.
pub record IsCarriedOutForSlip {F : Type 0} (old : Held F) (slip : SlipSeen) (e : Event) (r : Reply) (new : Held F)
    (slip' : SlipSeen) : Type 0 where
  pub answer : IsAnsweredIn old e r
  pub after : new ≡ held_after slip.pass e r old
  pub noted : slip' ≡ slip_after e r slip

-- A receive call with this outcome is carried out for the pass with this slip, and `room` holds the received item.
abbrev pub IsReceivedForSlip :
    {F : Type 0} → Held F → SlipSeen → SocketId → Received → Result Bool Refusal → Held F → SlipSeen → Type 0
IsReceivedForSlip old slip socket room outcome new slip' =
    IsCarriedOutForSlip old slip (event.Receive socket) (receive_reply room outcome) new slip'

-- A send with this outcome is carried out for the pass with this slip.
abbrev pub IsSentForSlip :
    {F : Type 0} → Held F → SlipSeen → SocketId → CanFrame → Result ℕ Refusal → Held F → SlipSeen → Type 0
IsSentForSlip old slip socket frame outcome new slip' =
    IsCarriedOutForSlip old slip (event.Send socket frame) (told reply.Sent outcome) new slip'

-- Nothing changes: the station's state, the slip and the pass's list stay the same.
abbrev pub ChangesNothing :
    {F : Type 0} → Held F → SlipSeen → Option ListedEntries → Held F → SlipSeen → Option ListedEntries → Type 0
ChangesNothing old slip calls new slip' calls' = (new ≡ old) × (slip' ≡ slip) × (calls' ≡ calls)

-- A pass's list after a call. The call is added with its reply, unless the record was full or an allocation failed.
abbrev pub listed_after : Event → Reply → Option (List Entry) → Option (List Entry)
listed_after e r None = None
listed_after e r (Some listed) = Some (history_after e r listed)

-- If the pass keeps a list, this call is added to the list.
abbrev pub Keeps : Option ListedEntries → Event → Reply → Option ListedEntries → Type 0
Keeps old e r new = calls_listed new ≡ listed_after e r (calls_listed old)

-- The call is carried out. The bus gives its reply, and the call and the reply are noted in the record and in the
-- caller's pass.
pub record IsMade {F : Type 0} (old : Held F) (pass : PassSeen) (e : Event) (r : Reply) (new : Held F)
    (pass' : PassSeen) : Type 0 where
  pub own : pass.number ≡ old.number
  pub answer : IsAnsweredIn old e r
  pub after : new ≡ held_after pass.pass e r old
  pub kept : pass' ≡ pass_after e r pass

-- Nothing changes.
abbrev pub IsUnchanged : {F : Type 0} → Held F → PassSeen → Held F → PassSeen → Type 0
IsUnchanged old pass new pass' = (new ≡ old) × (pass' ≡ pass)

-- A call under the lock is carried out or changes nothing. It changes nothing if the pass's list cannot grow or if the
-- pass belongs to another station.
abbrev pub Made : {F : Type 0} {A : Type 0} → (A → Reply) → Held F → PassSeen → Event → Result A StationRefusal
    → Held F → PassSeen → Type 0
Made told old pass e (Ok a) new pass' = IsMade old pass e (told a) new pass'
Made told old pass e (Err (station.Bus why)) new pass' =
    IsMade old pass e (reply.Refused why) new pass' ⊎ ((why ≡ refusal.NoMemory) × IsUnchanged old pass new pass')
Made told old pass e (Err station.WrongStation) new pass' =
    ¬ (pass.number ≡ old.number) × IsUnchanged old pass new pass'

-- The number of the next attempt, counted from 0.
abbrev pub next_number : {F : Type 0} → Held F → ℕ
next_number held = length (tape held.journal.history)

-- The source's verdict for the next attempt.
abbrev pub source_verdict : {F : Type 0} → (F → VerdictMap) → Held F → Verdict
source_verdict verdicts held = verdict_in (verdicts held.source) (next_number held)

-- The interface and the frame of the next attempt on a bus.
abbrev pub next_try : Journal → Option (ℕ × CanFrame)
next_try journal = next_head journal.config journal.history

-- The verdict for the next attempt: the source's verdict if that is a fault, otherwise the plan's verdict.
abbrev pub next_verdict : {F : Type 0} → (F → VerdictMap) → Held F → Verdict
next_verdict verdicts held = given (source_verdict verdicts held) held.plan (next_number held) (next_try held.journal)

-- The plan after it has been queried for the next attempt.
abbrev pub next_plan : {F : Type 0} → (F → VerdictMap) → Held F → PlanSeen
next_plan verdicts held = plan_after (source_verdict verdicts held) held.plan (next_number held) (next_try held.journal)

-- The state before the next attempt, after the source and the plan have been queried for the verdict of that attempt.
abbrev pub asked_for_attempt : {F : Type 0} → (F → VerdictMap) → F → Held F → Held F
asked_for_attempt verdicts source held = record held { source = source; plan = next_plan verdicts held }

-- The event of the next attempt at the given timestamp, with the verdict of the source or the plan.
abbrev pub next_attempt : {F : Type 0} → (F → VerdictMap) → Held F → ℕ → Event
next_attempt verdicts held moment = event.Attempt moment (next_verdict verdicts held)

-- The next attempt is carried out for the pass with this slip, after the source and the plan have been queried for the
-- verdict.
abbrev pub IsStepped : {F : Type 0} → (F → VerdictMap) → Held F → SlipSeen → ℕ → Reply → Held F → SlipSeen → Type 0
IsStepped verdicts old slip moment r new slip' =
    IsCarriedOutForSlip (asked_for_attempt verdicts new.source old) slip (next_attempt verdicts old moment) r new slip'

-- The next attempt is carried out for a pass, after the source and the plan have been queried for the verdict.
abbrev pub IsStepMade : {F : Type 0} → (F → VerdictMap) → Held F → PassSeen → ℕ → Reply → Held F → PassSeen → Type 0
IsStepMade verdicts old pass moment r new pass' =
    IsMade (asked_for_attempt verdicts new.source old) pass (next_attempt verdicts old moment) r new pass'

-- A step under the lock carries out the next attempt or changes nothing. It fails if the pass's list cannot grow, the
-- bus has no room for an entry, or the pass belongs to another station.
abbrev pub MadeStep : {F : Type 0} → (F → VerdictMap) → Held F → PassSeen → ℕ → Result Attempt StationRefusal
    → Held F → PassSeen → Type 0
MadeStep verdicts old pass moment (Ok a) new pass' = IsStepMade verdicts old pass moment (reply.Attempted a) new pass'
MadeStep verdicts old pass moment (Err (station.Bus why)) new pass' =
    IsStepMade verdicts old pass moment (reply.Refused why) new pass'
    ⊎ ((why ≡ refusal.NoMemory) × IsUnchanged old pass new pass')
MadeStep verdicts old pass moment (Err station.WrongStation) new pass' =
    ¬ (pass.number ≡ old.number) × IsUnchanged old pass new pass'

-- The outcome of a step without the verdict.
abbrev pub without_verdict : Result (Verdict × Attempt) StationRefusal → Result Attempt StationRefusal
without_verdict (Ok r) = Ok r.1
without_verdict (Err why) = Err why

-- A step under the lock whose outcome also includes the verdict.
abbrev pub MadeJudged : {F : Type 0} → (F → VerdictMap) → Held F → PassSeen → ℕ
    → Result (Verdict × Attempt) StationRefusal → Held F → PassSeen → Type 0
MadeJudged verdicts old pass moment outcome new pass' =
    MadeStep verdicts old pass moment (without_verdict outcome) new pass'

-- A possible state of this station: the number and the configuration are the station's, and the configuration is within
-- the limits. The history is legal. Its entries can be marked so that each pass has made exactly the entries with its
-- mark.
pub record IsStateOf {F : Type 0} (station : StationSeen) (held : Held F) : Type 0 where
  pub number : held.number ≡ station.number
  pub config : held.journal.config ≡ station.config
  pub proper : IsLongConfig station.config
  pub legal : IsLegal held.journal.config held.journal.history
  pub few : length held.lists ≤ 4096
  pub marks : List ℕ
  pub marked : IsMarked held.lists marks held.journal.history

-- The claim holds in some possible state of the station.
abbrev pub InSome : (F : Type 0) → StationSeen → (Held F → Type 0) → Type 0
InSome F station P = (held : Held F) × IsStateOf station held × P held

-- In some state of the station, the pass is the next one to enter.
abbrev pub IsNewPass : (F : Type 0) → StationSeen → PassSeen → Type 0
IsNewPass F station p =
    InSome F station (λ held. (length held.lists < 4096) × (p ≡ new_pass station.number (length held.lists)))

-- In some state of the station, the pass is the next one to enter, and it is a light pass, which keeps no list.
abbrev pub IsNewLightPass : (F : Type 0) → StationSeen → PassSeen → Type 0
IsNewLightPass F station p =
    InSome F station (λ held. (length held.lists < 4096) × (p ≡ new_light_pass station.number (length held.lists)))

-- In some state of the station, no further pass can enter.
abbrev pub HadNoPassLeft : (F : Type 0) → StationSeen → Type 0
HadNoPassLeft F station = InSome F station (λ held. NoPassLeft held)

-- The bus gives this result in some state of the station. Nothing is claimed if an allocation fails or the pass belongs
-- to another station.
abbrev pub Answered : (F : Type 0) {A : Type 0} → (A → Reply) → StationSeen → Event → Result A StationRefusal → Type 0
Answered F told seen e (Ok a) = InSome F seen (λ held. IsAnsweredIn held e (told a))
Answered F told seen e (Err (station.Bus refusal.NoMemory)) = Unit {0}
Answered F told seen e (Err (station.Bus why)) = InSome F seen (λ held. IsAnsweredIn held e (reply.Refused why))
Answered F told seen e (Err station.WrongStation) = Unit {0}

-- A step is carried out in some state of the station, as an attempt with a verdict from the source or the plan.
abbrev pub StepsIn : {F : Type 0} → (F → VerdictMap) → StationSeen → PassSeen → ℕ → Reply → PassSeen → Type 0
StepsIn {F} verdicts seen old moment r new =
    (old.number ≡ seen.number)
    × InSome F seen (λ held.
    IsAnsweredIn held (next_attempt verdicts held moment) r
    × (new ≡ pass_after (next_attempt verdicts held moment) r old))

-- A step is carried out or changes nothing. It changes nothing if the pass's list cannot grow or if the pass belongs to
-- another station.
abbrev pub Stepped :
    {F : Type 0} → (F → VerdictMap) → StationSeen → PassSeen → ℕ → Result Attempt StationRefusal → PassSeen → Type 0
Stepped verdicts seen old moment (Ok a) new = StepsIn verdicts seen old moment (reply.Attempted a) new
Stepped verdicts seen old moment (Err (station.Bus refusal.NoMemory)) new = new ≡ old
Stepped verdicts seen old moment (Err (station.Bus why)) new = StepsIn verdicts seen old moment (reply.Refused why) new
Stepped verdicts seen old moment (Err station.WrongStation) new = ¬ (old.number ≡ seen.number) × (new ≡ old)

-- Adding the rule in this string has this outcome in some state of the station. The bus's interfaces have these names.
abbrev pub InjectsIn : (F : Type 0) → StationSeen → List (List ℕ) → List ℕ → Result (Unit {0}) RuleRefusal → Type 0
InjectsIn F seen names text outcome =
    InSome F seen (λ held. (after : PlanSeen) × Injected names text held.plan outcome after)

-- The identity on replies, for calls that return the bus's reply itself.
abbrev pub same : Reply → Reply
same r = r

-- ---- the end of a station

-- The numbers of these passes.
abbrev pub numbers_of : List PassSeen → List ℕ
numbers_of own = map (λ v. v.pass) own

-- All passes belong to the station with this number.
abbrev pub AllOf : ℕ → List PassSeen → Type 0
AllOf number own = All (λ v. v.number ≡ number) own

-- At least one pass belongs to another station.
abbrev pub SomeOther : ℕ → List PassSeen → Type 0
SomeOther number own = ¬ AllOf number own

-- The calls of each pass are exactly the entries marked with the pass, in the same order.
abbrev pub AllMarked : List ℕ → List Entry → List PassSeen → Type 0
AllMarked marks past own = All (λ v. marked v.pass marks past ≡ v.calls) own

-- The roll's list for each pass has exactly the calls of the pass.
abbrev pub AllMatch : List (List Entry) → List PassSeen → Type 0
AllMatch lists own = All (λ v. row lists v.pass ≡ v.calls) own

-- The history is legal. Its entries can be marked with passes so that each of these passes has exactly the calls marked
-- with it. The passes are distinct, and their numbers are below the number of passes that entered.
pub record SettlesIn (left : Journal) (passes : ℕ) (own : List PassSeen) : Type 0 where
  pub legal : IsLegal left.config left.history
  pub marks : List ℕ
  pub long : length marks ≡ length left.history
  pub below : AllBelow passes marks
  pub each : AllMarked marks left.history own
  pub different : Distinct (numbers_of own)
  pub entered : AllBelow passes (numbers_of own)

-- `SettlesIn` for a kept record.
abbrev pub Settles : Kept → ℕ → List PassSeen → Type 0
Settles left passes own = SettlesIn (record { config = left.config; history = left.history }) passes own
