use Rattle.std.specs.Prelude.{◌≡◌, ◌<◌, ◌≤◌, ◌==◌, ◌⊎◌, ℕ, Bool, false, List, [], ◌∷◌, ◌++◌, length, if◌then◌else◌}
use Rattle.std.specs.Prelude.{Result, Ok, Err}
use Rattle.can_event.specs.declared.bus_config.BusConfig.{BusConfig}
use Rattle.can_event.specs.declared.entry.Entry.{Entry}
use Rattle.can_event.specs.declared.event.Event.{Event}
use Rattle.can_event.specs.declared.reply.Reply.{Reply}
use Rattle.can_event.specs.Replies.{enters, entry_of}
use Rattle.can_record.specs.Journal.{Journal}
use Rattle.can_bus.specs.Run.{history_after}
use Rattle.can_record.specs.Tapes.{tape}
use Rattle.can_rules.specs.Plans.{PlanSeen, without_rules}
use Rattle.can_rules.specs.RuleLines.{LinesSeen, text_of_lines, no_lines, with_end, with_given, with_none_left}
use Rattle.can_rules.specs.declared.rules.RuleRefusal.{RuleRefusal}
use Rattle.can_roll.specs.Lists.{call_added}
use Rattle.can_roll.specs.Seen.{RollSeen, SlipSeen, roll_seen, slip_seen}

-- A station and the state that its lock protects (own).

-- A station: its number and the configuration of its bus.
pub record StationSeen : Type 0 where
  pub number : ℕ
  pub config : BusConfig

-- The station with this number and this configuration.
abbrev pub station_seen : ℕ → BusConfig → StationSeen
station_seen number config = record { number = number; config = config }

-- The state that the station's lock protects: the station's number, its bus, the calls of each pass, the source of
-- verdicts, the plan of faults, the lines about the plan's rules, and whether the station was stopped.
pub record Held (F : Type 0) : Type 0 where
  pub number : ℕ
  pub journal : Journal
  pub lists : List (List Entry)
  pub source : F
  pub plan : PlanSeen
  pub changes : LinesSeen
  pub stopped : Bool

-- There is a bus with this journal that has no room for another entry.
abbrev pub HasNoPlace : {B : Type 0} → (B → Journal) → (B → ℕ) → Journal → Type 0
HasNoPlace {B} journal places j = (bus : B) × (journal bus ≡ j) × (places bus ≡ 0)

-- The state of a new station: no pass has entered, and the station is not stopped.
abbrev pub new_held : {F : Type 0} → ℕ → Journal → F → PlanSeen → Held F
new_held number journal source plan = record {
  number = number;
  journal = journal;
  lists = [];
  source = source;
  plan = plan;
  changes = no_lines;
  stopped = false;
}

-- The same state with the plan of faults and the lines about its rules replaced by these.
abbrev pub with_plan_lines : {F : Type 0} → PlanSeen → LinesSeen → Held F → Held F
with_plan_lines plan changes h = record h { plan = plan; changes = changes }

-- The number of attempts that have tried a frame, which is also the number of the next attempt, because numbers start
-- at 0.
abbrev pub next_number : {F : Type 0} → Held F → ℕ
next_number h = length (tape h.journal.history)

-- If the rule in this string is accepted, the plan may change and a line for the rule is appended. Otherwise nothing
-- changes.
abbrev pub TakesRule : {F : Type 0} → List ℕ → Held F → Result (Unit {0}) RuleRefusal → Held F → Type 0
TakesRule words old (Ok done) new = new ≡ with_plan_lines new.plan (with_given (next_number old) words old.changes) old
TakesRule words old (Err why) new = new ≡ old

-- The state after all rules are ended. If there were any rules, a line that records their end is appended.
abbrev pub after_end : {F : Type 0} → Held F → Held F
after_end h =
    if length h.plan.rules == 0 then h
    else with_plan_lines (without_rules h.plan) (with_end (next_number h) h.changes) h

-- All lines about the rules are removed and returned, or no lines if an allocation fails.
abbrev pub LinesTaken : {F : Type 0} → Held F → List ℕ → Held F → Type 0
LinesTaken old lines new =
    ((lines ≡ text_of_lines old.changes) × (new ≡ with_plan_lines old.plan (with_none_left old.changes) old))
    ⊎ ((lines ≡ []) × (new ≡ old))

-- The calls of each pass after pass p makes a call.
abbrev pub lists_after : ℕ → Event → Reply → List (List Entry) → List (List Entry)
lists_after p e r lists = if enters r then call_added lists p (entry_of e r) else lists

-- The roll after pass p makes a call.
abbrev pub roll_after : ℕ → Event → Reply → RollSeen → RollSeen
roll_after p e r roll = roll_seen roll.number (lists_after p e r roll.lists) roll.called

-- The state after pass p makes a call. The call is one event of the bus.
abbrev pub held_after : {F : Type 0} → ℕ → Event → Reply → Held F → Held F
held_after p e r h = record {
  number = h.number;
  journal = record { config = h.journal.config; history = history_after e r h.journal.history };
  lists = lists_after p e r h.lists;
  source = h.source;
  plan = h.plan;
  changes = h.changes;
  stopped = h.stopped;
}

-- The slip after its pass makes a call.
abbrev pub slip_after : Event → Reply → SlipSeen → SlipSeen
slip_after e r s = record { number = s.number; pass = s.pass; calls = history_after e r s.calls }

-- The state after one more pass enters. The new pass has not made a call yet.
abbrev pub with_pass : {F : Type 0} → Held F → Held F
with_pass h = record h { lists = h.lists ++ [] ∷ [] }

-- No further pass can enter, because 4,096 passes have entered.
abbrev pub NoPassLeft : {F : Type 0} → Held F → Type 0
NoPassLeft h = 4096 ≤ length h.lists

-- The next pass has entered and has this slip. Passes are numbered from 0.
pub record HasEntered {F : Type 0} (old : Held F) (slip : SlipSeen) (new : Held F) : Type 0 where
  pub left : length old.lists < 4096
  pub next : slip ≡ slip_seen old.number (length old.lists) []
  pub after : new ≡ with_pass old
