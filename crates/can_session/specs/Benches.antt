use Rattle.std.specs.Prelude.{◌≡◌, ◌≢◌, ◌⊎◌, ℕ, zero, suc, ◌-◌, ◌<◌, ◌≤◌, Bool, true, false, ◌&&◌, ◌||◌, List, []}
use Rattle.std.specs.Prelude.{◌∷◌, ◌++◌, slice_get, slice_set, length, codes, Option, Some, None, is_some}
use Rattle.std.specs.Prelude.{Result, Ok, Err}
use Rattle.std.specs.Option.{option_map}
use Rattle.std.specs.Result.{is_ok}
use Rattle.std.specs.Fmt.{decimal}
use Rattle.can_frame.specs.Names.{place_of}
use Rattle.can_fault.specs.Sources.{VerdictMap, verdict_in}
use Rattle.can_fault.specs.declared.verdict.Verdict.{Verdict}
use Rattle.can_rules.specs.declared.rules.RuleRefusal.{RuleRefusal}
use Rattle.can_rules.specs.declared.rules.RuleRefusal.TheVariants as refusal
use Rattle.can_rules.specs.declared.rule.Decision.{Decision}
use Rattle.can_rules.specs.Plans.{PlanSeen, Injected}
use Rattle.can_event.specs.declared.event.Event.{Event}
use Rattle.can_event.specs.declared.event.Event.TheVariants as event
use Rattle.can_event.specs.declared.refusal.Refusal.{Refusal}
use Rattle.can_event.specs.declared.refusal.Refusal.TheVariants.{RecordFull}
use Rattle.can_event.specs.declared.attempt.Attempt.{Attempt}
use Rattle.can_record.specs.Journal.{Journal}
use Rattle.can_record.specs.Outcomes.{done_reply}
use Rattle.can_bus.specs.Answer.{Answers}
use Rattle.can_event.specs.declared.reply.Reply.TheVariants as reply
use Rattle.can_proto.specs.Messages.{messages_of, kept_of}
use Rattle.can_dialog.specs.declared.stage.Stage.{Stage}
use Rattle.can_dialog.specs.declared.stage.Stage.TheVariants.{Ended}
use Rattle.can_dialog.specs.Plans.{Plays}
use Rattle.can_dialog.specs.Turns.{ending, delivery, greeting}
use Rattle.can_dialog.specs.Deliveries.{AreGiven}
use Rattle.can_dialog.specs.Sessions.{SessionState, Turns, beginning}
use Rattle.can_session.specs.BusSteps.{NamedBus, BusStep, next_number_on, head_on, verdict_on, decision_on, plan_left}
use Rattle.can_session.specs.BusSteps.{waits_in_time}
use Rattle.can_session.specs.Wires.{Schedule, attempt_moment, schedule_left, moment_left, begins_before}
use Rattle.can_session.specs.declared.ignored_input.IgnoredInput.{IgnoredInput}
use Rattle.can_session.specs.IgnoredInput.{ignored_then}
use Rattle.can_session.specs.Orders.{Effect, order_of}
use Rattle.can_session.specs.Orders.Effect.{Does_nothing, Sets, Starts, Feeds, Drains, Ends, Attempts, Runs, Injects}
use Rattle.can_session.specs.Orders.Effect.{TakesDown, BringsUp}
use Rattle.can_session.specs.AttemptLines.{bench_attempt_line}

-- What each line of the bench's input does, and what the bench prints (own choice).

-- the state of a bench: the receive queue capacity of its sockets, whether the lines of attempts show faults, the bus,
-- the sessions by number, the current moment, and which sessions were fed bytes outside messages
pub record BenchState : Type 0 where
  pub capacity : ℕ
  pub shows_faults : Bool
  pub bus : NamedBus
  pub sessions : List (Option SessionState)
  pub moment : ℕ
  pub ignored : IgnoredInput

-- the state of session `s`: `Some None` if it was not started, `None` if there is no session with this number
abbrev pub session_at : BenchState → ℕ → Option (Option SessionState)
session_at b s = slice_get b.sessions (s - 1)

-- the bench after the states of session `s` and the bus changed to these states
abbrev pub with_session : BenchState → ℕ → SessionState → NamedBus → BenchState
with_session b s st bus = record b { sessions = slice_set b.sessions (s - 1) (Some st); bus = bus }

-- the bench after it recorded that session `s` was fed these bytes
abbrev pub with_fed : BenchState → ℕ → List ℕ → BenchState
with_fed b s bytes = record b { ignored = ignored_then b.ignored s bytes }

-- the output of a session as a line: the session's number, a space, the bytes and LF; nothing if there are no bytes
abbrev pub spoken : ℕ → List ℕ → List ℕ
spoken s [] = []
spoken s (b ∷ bs) = decimal s ++ 32 ∷ (b ∷ bs) ++ 10 ∷ []

-- a session is fed a piece of input
pub record Hears (moment : ℕ) (bytes : List ℕ) (old : SessionState) (p : NamedBus) (text : List ℕ)
    (new : SessionState) (q : NamedBus) : Type 0 where
  pub forgotten : List Bool
  pub turns : Turns BusStep moment old.dialog forgotten (messages_of (old.kept ++ bytes)) p q text new.dialog
  pub keeps : new.kept ≡ kept_of (old.kept ++ bytes)

-- a session at this stage is fed a piece of input; a session that has ended ignores the piece
abbrev pub IsFedAt : Stage → ℕ → List ℕ → SessionState → NamedBus → List ℕ → SessionState → NamedBus → Type 0
IsFedAt Ended moment bytes old p text new q = (new ≡ old) × (text ≡ []) × (q ≡ p)
IsFedAt _ moment bytes old p text new q = Hears moment bytes old p text new q

-- a session is fed a piece of input at this moment
abbrev pub IsFed : ℕ → List ℕ → SessionState → NamedBus → List ℕ → SessionState → NamedBus → Type 0
IsFed moment bytes = λ old. IsFedAt old.dialog.stage moment bytes old

-- a session delivers items to its client until no item is left
pub record IsDrained (old : SessionState) (p : NamedBus) (text : List ℕ) (new : SessionState)
    (q : NamedBus) : Type 0 where
  pub items : ℕ
  pub before : List ℕ
  pub mid : NamedBus
  pub last : List ℕ
  pub given : AreGiven BusStep items old.dialog.stage p before mid
  pub ends : Plays BusStep (delivery old.dialog.stage) mid q last false
  pub said : text ≡ before ++ last
  pub same : new ≡ old

-- a session ends and prints nothing
pub record IsEnded (old : SessionState) (p : NamedBus) (text : List ℕ) (new : SessionState)
    (q : NamedBus) : Type 0 where
  pub ends : Plays BusStep (ending old.dialog.stage old.dialog) p q text new.dialog
  pub keeps : new.kept ≡ old.kept

-- session `s`, which was started before, performs this step, and the bench prints its output
pub record Speaks (does : SessionState → NamedBus → List ℕ → SessionState → NamedBus → Type 0) (s : ℕ)
    (b : BenchState) (text : List ℕ) (after : BenchState) : Type 0 where
  pub old : SessionState
  pub said : List ℕ
  pub new : SessionState
  pub bus : NamedBus
  pub started : session_at b s ≡ Some (Some old)
  pub done : does old b.bus said new bus
  pub text_is : text ≡ spoken s said
  pub after_is : after ≡ with_session b s new bus

-- session `s`, whose number was not used before, starts, and the bench prints its greeting
abbrev pub IsStarted : ℕ → BenchState → List ℕ → BenchState → Type 0
IsStarted s b text after =
    (session_at b s ≡ Some None)
    × (text ≡ spoken s greeting)
    × (after ≡ with_session b s (beginning b.capacity) b.bus)

-- the verdict that the source returns for the next attempt
abbrev pub sourced : VerdictMap → NamedBus → Verdict
sourced verdicts bus = verdict_in verdicts (next_number_on bus)

-- the moment of the next attempt
abbrev pub next_moment_on : BenchState → ℕ
next_moment_on b = attempt_moment b.moment (waits_in_time b.bus) (head_on b.bus) b.bus.schedule

-- the moment that the line of an attempt shows: no moment if the bus has no bit rates
abbrev pub said_moment : Option Schedule → ℕ → Option ℕ
said_moment schedule moment = option_map (λ s. moment) schedule

-- the decision that the line of an attempt shows: no decision if faults are not shown
abbrev pub said_decision : Bool → Decision → Option Decision
said_decision true decision = Some decision
said_decision false decision = None

-- the bench after time passed for an attempt with this verdict and outcome. `waits` says whether an interface waited
-- for its restart before the attempt. A refused attempt takes no time.
abbrev pub passed : Bool → Verdict → Result Attempt Refusal → BenchState → BenchState
passed waits v (Ok a) b = record b {
  moment = moment_left b.moment (schedule_left b.moment waits v a b.bus.schedule);
  bus = record b.bus { schedule = schedule_left b.moment waits v a b.bus.schedule };
}
passed waits v (Err why) b = b

-- the bench makes an attempt, with the verdict that the source and the plan decide for the next attempt
pub record IsTried (verdicts : VerdictMap) (b : BenchState) (text : List ℕ) (after : BenchState) : Type 0 where
  pub outcome : Result Attempt Refusal
  pub journal : Journal
  pub answers : Answers reply.Attempted b.bus.journal
      (event.Attempt (next_moment_on b) (verdict_on b.bus (sourced verdicts b.bus))) outcome journal
  pub text_is : text ≡ bench_attempt_line b.bus.names (said_moment b.bus.schedule (next_moment_on b))
      (said_decision b.shows_faults (decision_on b.bus (sourced verdicts b.bus))) outcome
  pub after_is : after ≡ passed (waits_in_time b.bus) (verdict_on b.bus (sourced verdicts b.bus)) outcome (record b {
    bus = record b.bus { journal = journal; plan = plan_left b.bus (sourced verdicts b.bus) };
  })

-- the bench makes an attempt if the flag is true; otherwise the attempt is refused
abbrev pub IsTriedIf : Bool → VerdictMap → BenchState → List ℕ → BenchState → Type 0
IsTriedIf is_made verdicts b text after = (one : IsTried verdicts b text after) × (is_ok one.outcome ≡ is_made)

-- the next attempt would begin before this moment, and there is a frame to try or an interface waits for its restart
abbrev pub is_attempt_due : ℕ → BenchState → Bool
is_attempt_due moment b =
    begins_before b.moment moment b.bus.schedule && (is_some (head_on b.bus) || waits_in_time b.bus)

-- the bench makes exactly this many attempts, one after another, and each attempt is due
abbrev pub AreTried : VerdictMap → ℕ → ℕ → BenchState → List ℕ → BenchState → Type 0
AreTried verdicts moment zero b text after = (text ≡ []) × (after ≡ b)
AreTried verdicts moment (suc n) b text after =
    (before : List ℕ) × (mid : BenchState) × (last : List ℕ)
    × AreTried verdicts moment n b before mid
    × (is_attempt_due moment mid ≡ true)
    × IsTriedIf true verdicts mid last after
    × (text ≡ before ++ last)

-- the record of the bus has no room for another attempt
abbrev pub IsFull : BenchState → Type 0
IsFull b = b.bus.journal.config.limit ≤ length b.bus.journal.history

-- no other attempt is due; or an attempt is due but the record is full, and the bench prints the refusal
abbrev pub NoneFollows : VerdictMap → ℕ → BenchState → List ℕ → BenchState → Type 0
NoneFollows verdicts moment b text after =
    ((is_attempt_due moment b ≡ false) × (text ≡ []) × (after ≡ b))
    ⊎ ((is_attempt_due moment b ≡ true) × IsFull b × IsTried verdicts b text after)

-- the bench makes attempts while one is due before this moment
pub record AreMade (verdicts : VerdictMap) (moment : ℕ) (b : BenchState) (text : List ℕ)
    (after : BenchState) : Type 0 where
  pub count : ℕ
  pub before : List ℕ
  pub mid : BenchState
  pub last : List ℕ
  pub tried : AreTried verdicts moment count b before mid
  pub ends : NoneFollows verdicts moment mid last after
  pub said : text ≡ before ++ last

-- the bench makes all attempts that are due before this moment, and then sets its current moment to this one. The bus
-- has bit rates, and the moment that was set before is not later.
pub record IsRun (verdicts : VerdictMap) (moment : ℕ) (b : BenchState) (text : List ℕ)
    (after : BenchState) : Type 0 where
  pub timed : b.bus.schedule ≢ None
  pub ahead : b.moment ≤ moment
  pub over : BenchState
  pub made : AreMade verdicts moment b text over
  pub after_is : after ≡ record over { moment = moment }

-- the bench cannot run to this moment: its bus has no bit rates, or the current moment is later
abbrev pub IsWrongRun : ℕ → BenchState → Type 0
IsWrongRun moment b = (b.bus.schedule ≡ None) ⊎ (moment < b.moment)

-- the fault plan of the bus accepts this rule
pub record IsInjected (rule : List ℕ) (b after : BenchState) : Type 0 where
  pub plan : PlanSeen
  pub takes : Injected b.bus.names rule b.bus.plan (Ok tt) plan
  pub after_is : after ≡ record b { bus = record b.bus { plan = plan } }

-- the fault plan of the bus refuses this rule, and the reason is not a lack of memory
pub record IsWrongRule (rule : List ℕ) (b : BenchState) : Type 0 where
  pub why : RuleRefusal
  pub refuses : Injected b.bus.names rule b.bus.plan (Err why) b.bus.plan
  pub fault : why ≢ refusal.NoMemory

-- the output of a line that takes an interface down or brings it up: a message if the record is full, otherwise nothing
abbrev pub change_line : Result (Unit {0}) Refusal → List ℕ
change_line (Ok done) = []
change_line (Err why) = codes "record full\n"

-- whether the line is valid: the bus made the change, or its record is full
abbrev pub is_good_change : Result (Unit {0}) Refusal → Bool
is_good_change (Ok done) = true
is_good_change (Err RecordFull) = true
is_good_change (Err why) = false

-- the bus handles the event that takes the named interface down or restarts it, at the current moment
pub record IsChanged (event_of : ℕ → ℕ → Event) (name : List ℕ) (b : BenchState) (text : List ℕ)
    (after : BenchState) : Type 0 where
  pub iface : ℕ
  pub outcome : Result (Unit {0}) Refusal
  pub journal : Journal
  pub named : place_of b.bus.names name ≡ Some iface
  pub answers : Answers done_reply b.bus.journal (event_of iface b.moment) outcome journal
  pub good : is_good_change outcome ≡ true
  pub text_is : text ≡ change_line outcome
  pub after_is : after ≡ record b { bus = record b.bus { journal = journal } }

-- the bus refuses the event, and the reason is not a full record
pub record IsDenied (event_of : ℕ → ℕ → Event) (name : List ℕ) (b : BenchState) : Type 0 where
  pub iface : ℕ
  pub why : Refusal
  pub journal : Journal
  pub named : place_of b.bus.names name ≡ Some iface
  pub answers : Answers done_reply b.bus.journal (event_of iface b.moment) (Err why) journal
  pub fault : why ≢ RecordFull

-- no interface has this name, or the bus refuses the change
abbrev pub IsWrongChange : (ℕ → ℕ → Event) → List ℕ → BenchState → Type 0
IsWrongChange event_of name b = (place_of b.bus.names name ≡ None) ⊎ IsDenied event_of name b

-- the effect of a valid line: the bench before the line, its output, and the bench after it
abbrev pub Does : VerdictMap → Effect → BenchState → List ℕ → BenchState → Type 0
Does verdicts Does_nothing b text after = (text ≡ []) × (after ≡ b)
Does verdicts (Sets moment) b text after = (text ≡ []) × (after ≡ record b { moment = moment })
Does verdicts (Starts s) b text after = IsStarted s b text after
Does verdicts (Feeds s bytes) b text after = Speaks (IsFed b.moment bytes) s (with_fed b s bytes) text after
Does verdicts (Drains s) b text after = Speaks IsDrained s b text after
Does verdicts (Ends s) b text after = Speaks IsEnded s b text after
Does verdicts Attempts b text after = IsTried verdicts b text after
Does verdicts (Runs moment) b text after = IsRun verdicts moment b text after
Does verdicts (Injects rule) b text after = (text ≡ []) × IsInjected rule b after
Does verdicts (TakesDown name) b text after = IsChanged event.Down name b text after
Does verdicts (BringsUp name) b text after = IsChanged event.Restart name b text after

-- the bench carries out a line
pub record IsCarriedOut (verdicts : VerdictMap) (line : List ℕ) (b : BenchState) (text : List ℕ)
    (after : BenchState) : Type 0 where
  pub effect : Effect
  pub reads : order_of line ≡ Some effect
  pub does : Does verdicts effect b text after

-- the bench refuses a line. The line is wrong, its session was used before or never started, the bench cannot run to
-- its moment, its rule is refused, its interface does not exist, or the bus refuses its change.
abbrev pub IsRefused : Option Effect → BenchState → Type 0
IsRefused None b = Unit {0}
IsRefused (Some (Starts s)) b = session_at b s ≢ Some None
IsRefused (Some (Feeds s bytes)) b = session_at b s ≡ Some None
IsRefused (Some (Drains s)) b = session_at b s ≡ Some None
IsRefused (Some (Ends s)) b = session_at b s ≡ Some None
IsRefused (Some (Runs moment)) b = IsWrongRun moment b
IsRefused (Some (Injects rule)) b = IsWrongRule rule b
IsRefused (Some (TakesDown name)) b = IsWrongChange event.Down name b
IsRefused (Some (BringsUp name)) b = IsWrongChange event.Restart name b
IsRefused (Some _) b = ⊥

-- the bench after it refused a line: it is unchanged, except that a change that the bus refused is in the record
abbrev pub IsLeftBy : BenchState → BenchState → Type 0
IsLeftBy b after =
    (after ≡ b)
    ⊎ ((change : Event) × (why : Refusal) × (journal : Journal)
    × Answers done_reply b.bus.journal change (Err why) journal
    × (after ≡ record b { bus = record b.bus { journal = journal } }))

-- the bench carries out lines, one after another, and does nothing else
abbrev pub AreCarriedOut : VerdictMap → List (List ℕ) → BenchState → List ℕ → BenchState → Type 0
AreCarriedOut verdicts [] b text after = (text ≡ []) × (after ≡ b)
AreCarriedOut verdicts (line ∷ lines) b text after =
    (first : List ℕ) × (mid : BenchState) × (others : List ℕ)
    × IsCarriedOut verdicts line b first mid
    × AreCarriedOut verdicts lines mid others after
    × (text ≡ first ++ others)
