-- Attempts that the bench makes while one is due.
use Rattle.std.proofs.Common.{◌≡◌, ℕ, ◌≤◌, Bool, false, List, length, Option, Some, None, Result, Ok, Err, is_ok, ◌++◌, sym, ap, subst, ◌∙◌}
use Rattle.can_fault.specs.Sources.{VerdictMap}
use Rattle.can_fault.specs.declared.verdict.Verdict.{Verdict}
use Rattle.can_event.specs.declared.attempt.Attempt.{Attempt}
use Rattle.can_event.specs.declared.bus_config.BusConfig.{BusConfig}
use Rattle.can_event.specs.declared.entry.Entry.{Entry}
use Rattle.can_event.specs.declared.event.Event.TheVariants as event
use Rattle.can_event.specs.declared.pending.Pending.{Pending}
use Rattle.can_event.specs.declared.refusal.Refusal.{Refusal}
use Rattle.can_event.specs.declared.refusal.Refusal.TheVariants as refusal
use Rattle.can_event.specs.declared.reply.Reply.TheVariants as reply
use Rattle.can_record.specs.Journal.{Journal}
use Rattle.can_bus.specs.Answer.{Answers, Refuses}
use Rattle.can_bus.specs.Attempts.{winner, attempt_reply, tried_head}
use Rattle.can_bus.specs.Transmit.{head_of}
use Rattle.can_rules.specs.declared.rule.Decision.{Decision}
use Rattle.can_rules.specs.Plans.{PlanSeen}
use Rattle.can_session.specs.AttemptLines.{bench_attempt_line}
use Rattle.can_session.specs.Wires.{Schedule, attempt_moment}
use Rattle.can_session.specs.BusSteps.{NamedBus, head_on, waits_in_time, verdict_on, decision_on, plan_left}
use Rattle.can_session.specs.Benches.{BenchState, IsTriedIf, IsFull, sourced, next_moment_on, said_moment, said_decision, passed}
use Rattle.can_session.specs.inner.Acts.{Puts}

-- the legal reply to an attempt is never a refusal

not_refused_head : (c : BusConfig) (past : List Entry) (m : ℕ) (v : Verdict) (why : Refusal) (w : ℕ) (p : Option Pending) → reply.Refused why ≡ tried_head c past m v w p → ⊥
not_refused_head c past m v why w None is = cc
not_refused_head c past m v why w (Some p) is = cc

not_refused : (c : BusConfig) (past : List Entry) (m : ℕ) (v : Verdict) (why : Refusal) (w : Option ℕ) → reply.Refused why ≡ attempt_reply c past m v w → ⊥
not_refused c past m v why None is = cc
not_refused c past m v why (Some w) is = not_refused_head c past m v why w (head_of past w) is

-- if an attempt is refused, the record is full
full : (old : Journal) (m : ℕ) (v : Verdict) (why : Refusal) (new : Journal) → Refuses old (event.Attempt m v) why new → old.config.limit ≤ length old.history
full old m v refusal.RecordFull new h = h.0
full old m v refusal.NoMemory new h = absurd h.1
full old m v why new h = absurd (not_refused old.config old.history m v why (winner old.config old.history) h.lawful)

refused : (old : Journal) (m : ℕ) (v : Verdict) (outcome : Result Attempt Refusal) (new : Journal) → is_ok outcome ≡ false → Answers reply.Attempted old (event.Attempt m v) outcome new → old.config.limit ≤ length old.history
refused old m v (Ok a) new is h = cc
refused old m v (Err why) new is h = full old m v why new h

-- an attempt is made unless the record is full
pub stops_full : (v : VerdictMap) (b : BenchState) (text : List ℕ) (after : BenchState) → IsTriedIf false v b text after → IsFull b
stops_full v b text after (one, none) = refused b.bus.journal _ _ one.outcome one.journal none one.answers

-- the outcome of an attempt and its output together form one attempt of the bench

-- the bus after an attempt
bus_left : (b bus : NamedBus) (source of_source : Verdict) → source ≡ of_source → bus.names ≡ b.names → bus.plan ≡ plan_left b source → bus.schedule ≡ b.schedule → bus ≡ record b { journal = bus.journal; plan = plan_left b of_source }
bus_left b bus source of_source is names plan schedule =
    ap (λ (ns : List (List ℕ)). record { names = ns; journal = bus.journal; plan = bus.plan; schedule = bus.schedule }) names
    ∙ ap (λ (p : PlanSeen). record { names = b.names; journal = bus.journal; plan = p; schedule = bus.schedule }) (plan ∙ ap (plan_left b) is)
    ∙ ap (λ (s : Option Schedule). record { names = b.names; journal = bus.journal; plan = plan_left b of_source; schedule = s }) schedule

-- the decision, the moment and the line of an attempt, in the order in which they are computed
pub record Made (verdicts : VerdictMap) (b : BenchState) (bus : NamedBus) (source : Verdict) (decision : Decision) (waits : Bool) (moment : ℕ) (when : Option ℕ) (shown : Option Decision) (outcome : Result Attempt Refusal) : Type 0 where
  pub source_is : source ≡ sourced verdicts b.bus
  pub decision_is : decision ≡ decision_on b.bus source
  pub verdict_is : decision.verdict ≡ verdict_on b.bus source
  pub waits_is : waits ≡ waits_in_time b.bus
  pub moment_is : moment ≡ attempt_moment b.moment waits (head_on b.bus) b.bus.schedule
  pub when_is : when ≡ said_moment b.bus.schedule moment
  pub shown_is : shown ≡ said_decision b.shows_faults decision
  pub answers : Answers reply.Attempted b.bus.journal (event.Attempt moment (verdict_on b.bus source)) outcome bus.journal
  pub names : bus.names ≡ b.bus.names
  pub plan : bus.plan ≡ plan_left b.bus source
  pub schedule : bus.schedule ≡ b.bus.schedule

-- the moment in `Made` is the moment of the next attempt
moment_of : (verdicts : VerdictMap) (b : BenchState) (bus : NamedBus) (source : Verdict) (decision : Decision) (waits : Bool) (moment : ℕ) (when : Option ℕ) (shown : Option Decision) (outcome : Result Attempt Refusal) → Made verdicts b bus source decision waits moment when shown outcome
    → moment ≡ next_moment_on b
moment_of verdicts b bus source decision waits moment when shown outcome h = h.moment_is ∙ ap (λ (w : Bool). attempt_moment b.moment w (head_on b.bus) b.bus.schedule) h.waits_is

answers_of : (verdicts : VerdictMap) (b : BenchState) (bus : NamedBus) (source : Verdict) (decision : Decision) (waits : Bool) (moment : ℕ) (when : Option ℕ) (shown : Option Decision) (outcome : Result Attempt Refusal) → Made verdicts b bus source decision waits moment when shown outcome
    → Answers reply.Attempted b.bus.journal (event.Attempt (next_moment_on b) (verdict_on b.bus (sourced verdicts b.bus))) outcome bus.journal
answers_of verdicts b bus source decision waits moment when shown outcome h =
    subst (λ (s : Verdict). Answers reply.Attempted b.bus.journal (event.Attempt (next_moment_on b) (verdict_on b.bus s)) outcome bus.journal) h.source_is
    (subst (λ (m : ℕ). Answers reply.Attempted b.bus.journal (event.Attempt m (verdict_on b.bus source)) outcome bus.journal) (moment_of verdicts b bus source decision waits moment when shown outcome h) h.answers)

pub tried_by : (verdicts : VerdictMap) (b after : BenchState) (bus : NamedBus) (source : Verdict) (decision : Decision) (waits : Bool) (moment : ℕ) (when : Option ℕ) (shown : Option Decision) (outcome : Result Attempt Refusal) (names : List (List ℕ)) (said new : List ℕ) (is : Bool)
    → Made verdicts b bus source decision waits moment when shown outcome → names ≡ bus.names → new ≡ said ++ bench_attempt_line names when shown outcome
    → after ≡ passed waits decision.verdict outcome (record b { bus = bus }) → is ≡ is_ok outcome → Puts (IsTriedIf is verdicts) b said after new
tried_by verdicts b after bus source decision waits moment when shown outcome names said new is h names_are put passes is_tried = (
  bench_attempt_line names when shown outcome,
  (
    record {
      outcome = outcome;
      journal = bus.journal;
      answers = answers_of verdicts b bus source decision waits moment when shown outcome h;
      text_is = ap (λ (ns : List (List ℕ)). bench_attempt_line ns when shown outcome) (names_are ∙ h.names)
          ∙ ap (λ (w : Option ℕ). bench_attempt_line b.bus.names w shown outcome) (h.when_is ∙ ap (said_moment b.bus.schedule) (moment_of verdicts b bus source decision waits moment when shown outcome h))
          ∙ ap (λ (d : Option Decision). bench_attempt_line b.bus.names (said_moment b.bus.schedule (next_moment_on b)) d outcome)
          (h.shown_is ∙ ap (said_decision b.shows_faults) (h.decision_is ∙ ap (decision_on b.bus) h.source_is));
      after_is = passes
          ∙ ap (λ (w : Bool). passed w decision.verdict outcome (record b { bus = bus })) h.waits_is
          ∙ ap (λ (v : Verdict). passed (waits_in_time b.bus) v outcome (record b { bus = bus })) (h.verdict_is ∙ ap (verdict_on b.bus) h.source_is)
          ∙ ap (λ (x : NamedBus). passed (waits_in_time b.bus) (verdict_on b.bus (sourced verdicts b.bus)) outcome (record b { bus = x })) (bus_left b.bus bus source (sourced verdicts b.bus) h.source_is h.names h.plan h.schedule);
    },
    sym is_tried,
  ),
  put,
)

-- the attempt is made with the verdicts that were valid at the start
pub tried_as : (v w : VerdictMap) (is other : Bool) (b : BenchState) (text : List ℕ) (after : BenchState) → w ≡ v → is ≡ other → IsTriedIf is w b text after → IsTriedIf other v b text after
tried_as v w is other b text after same was h =
    subst (λ (u : VerdictMap). IsTriedIf other u b text after) same (subst (λ (t : Bool). IsTriedIf t w b text after) was h)
