use Rattle.std.specs.Prelude.{◌≡◌, ℕ, zero, suc, Bool, true, false, ◌&&◌, ◌||◌, nat_le, List, []}
use Rattle.std.specs.Prelude.{Option, Some, None, is_some, Result, Ok, Err}
use Rattle.std.specs.Option.{option_map}
use Rattle.can_fault.specs.declared.verdict.Verdict.{Verdict}
use Rattle.can_fault.specs.declared.verdict.Verdict.TheVariants.{Good}
use Rattle.can_rules.specs.Plans.{PlanSeen, no_plan}
use Rattle.can_event.specs.declared.bus_config.BusConfig.{BusConfig}
use Rattle.can_event.specs.declared.event.Event.{Event}
use Rattle.can_event.specs.declared.event.Event.TheVariants as event
use Rattle.can_event.specs.declared.reply.Reply.{Reply}
use Rattle.can_event.specs.declared.reply.Reply.TheVariants as reply
use Rattle.can_event.specs.declared.refusal.Refusal.{Refusal}
use Rattle.can_event.specs.declared.attempt.Attempt.{Attempt}
use Rattle.can_record.specs.Journal.{Journal}
use Rattle.can_bus.specs.Answer.{Answers}
use Rattle.can_wire.specs.Timings.{BusTiming}
use Rattle.can_session.specs.BusSteps.{NamedBus, head_on, waits_in_time, verdict_on, plan_left}
use Rattle.can_session.specs.Wires.{nothing_yet, attempt_moment, schedule_left, moment_left, begins_before}
use Rattle.canbusd_c.specs.declared.local_bus.RunFault.{RunFault}
use Rattle.canbusd_c.specs.declared.local_bus.RunFault.TheVariants.{BadRun, RecordFull}

-- A bus inside the calling process. It accepts the events of can_bus, and makes attempts as a bench does (own choice).

-- a bus with names, a plan and a schedule, and its current moment
pub record Local : Type 0 where
  pub bus : NamedBus
  pub moment : ℕ

-- the bus before the first call: there is no event and no rule, and the current moment is 0
abbrev pub local_at_start : List (List ℕ) → BusConfig → Option BusTiming → Local
local_at_start names config timing = record {
  bus = record {
    names = names;
    journal = record { config = config; history = [] };
    plan = no_plan;
    schedule = option_map nothing_yet timing;
  };
  moment = 0;
}

-- the bus with this history
abbrev pub local_with_journal : Local → Journal → Local
local_with_journal b journal = record b { bus = record b.bus { journal = journal } }

-- the bus with this plan
abbrev pub local_with_plan : Local → PlanSeen → Local
local_with_plan b plan = record b { bus = record b.bus { plan = plan } }

-- the bus with this current moment
abbrev pub local_at_moment : ℕ → Local → Local
local_at_moment moment b = record b { moment = moment }

-- one event on the bus, with the bus's reply; nothing else changes
abbrev pub IsLocalEvent : {A : Type 0} → (A → Reply) → Local → Event → Result A Refusal → Local → Type 0
IsLocalEvent {A} told old event outcome new =
    Answers told old.bus.journal event outcome new.bus.journal × (new ≡ local_with_journal old new.bus.journal)

-- the moment of the next attempt; `waits` says whether an interface waits for its restart
abbrev pub next_local_moment : Bool → Local → ℕ
next_local_moment waits b = attempt_moment b.moment waits (head_on b.bus) b.bus.schedule

-- the bus after the time that an attempt with this verdict and this result takes; a refused attempt takes no time
abbrev pub local_passed : Bool → Verdict → Result Attempt Refusal → Local → Local
local_passed waits v (Ok a) b = record b {
  moment = moment_left b.moment (schedule_left b.moment waits v a b.bus.schedule);
  bus = record b.bus { schedule = schedule_left b.moment waits v a b.bus.schedule };
}
local_passed waits v (Err why) b = b

-- an attempt at the current moment, with the verdict that the plan gives it
pub record IsLocalTry (b : Local) (outcome : Result Attempt Refusal) (after : Local) : Type 0 where
  pub journal : Journal
  pub answers : Answers reply.Attempted b.bus.journal
      (event.Attempt (next_local_moment (waits_in_time b.bus) b) (verdict_on b.bus Good)) outcome journal
  pub after_is : after ≡ local_passed (waits_in_time b.bus) (verdict_on b.bus Good) outcome
      (local_with_journal (local_with_plan b (plan_left b.bus Good)) journal)

-- an attempt would begin before this moment, and either it has a frame to try or an interface waits for its restart
abbrev pub is_local_due : ℕ → Local → Bool
is_local_due moment b = begins_before b.moment moment b.bus.schedule && (is_some (head_on b.bus) || waits_in_time b.bus)

-- this many attempts are made one after another, and each of them is due
abbrev pub AreLocalTries : ℕ → ℕ → Local → Local → Type 0
AreLocalTries moment zero b after = after ≡ b
AreLocalTries moment (suc n) b after =
    (mid : Local) × (one : Attempt)
    × AreLocalTries moment n b mid
    × (is_local_due moment mid ≡ true)
    × IsLocalTry mid (Ok one) after

-- attempts are made as long as one is due before this moment, or until a due attempt is refused
abbrev pub AreDueMade : ℕ → Local → Result (Unit {0}) RunFault → Local → Type 0
AreDueMade moment b (Ok done) after = (n : ℕ) × AreLocalTries moment n b after × (is_local_due moment after ≡ false)
AreDueMade moment b (Err fault) after =
    (n : ℕ) × (mid : Local) × (why : Refusal)
    × AreLocalTries moment n b mid × (is_local_due moment mid ≡ true) × IsLocalTry mid (Err why) after

-- the bus can run to this moment: it has bit rates, and its current moment is not later
abbrev pub can_run_to : ℕ → Local → Bool
can_run_to moment b = is_some b.bus.schedule && nat_le b.moment moment

-- a run to this moment makes attempts as long as one is due, counts them, and then sets the current moment. It ends
-- early if a due attempt is refused because the record is full
abbrev pub IsLocalRun : ℕ → Local → Result ℕ RunFault → Local → Type 0
IsLocalRun moment b (Ok n) after =
    (mid : Local)
    × AreLocalTries moment n b mid
    × (is_local_due moment mid ≡ false)
    × (after ≡ local_at_moment moment mid)
    × (can_run_to moment b ≡ true)
IsLocalRun moment b (Err BadRun) after = (after ≡ b) × (can_run_to moment b ≡ false)
IsLocalRun moment b (Err RecordFull) after = AreDueMade moment b (Err RecordFull) after × (can_run_to moment b ≡ true)
