use Rattle.std.specs.Prelude.{◌≡◌, ℕ, Bool, ◌&&◌, List, length, Option, Some, None, is_some, Result, Ok, Err}
use Rattle.can_frame.specs.Names.{place_of}
use Rattle.can_confine.specs.Confinement.{ErrorCounts, at_start}
use Rattle.can_event.specs.declared.event.Event.{Event}
use Rattle.can_event.specs.declared.event.Event.TheVariants as event
use Rattle.can_event.specs.declared.reply.Reply.{Reply}
use Rattle.can_event.specs.declared.reply.Reply.TheVariants as reply
use Rattle.can_event.specs.declared.refusal.Refusal.{Refusal}
use Rattle.can_event.specs.declared.refusal.Refusal.TheVariants as refusal
use Rattle.can_frame.specs.Frames.{CanFrame}
use Rattle.can_fault.specs.declared.verdict.Verdict.{Verdict}
use Rattle.can_rules.specs.declared.rules.RuleRefusal.{RuleRefusal}
use Rattle.can_rules.specs.Plans.{PlanSeen, given, plan_after, without_rules, Injected}
use Rattle.can_rules.specs.Plans.{decided_for}
use Rattle.can_rules.specs.declared.rule.Decision.{Decision}
use Rattle.can_record.specs.Journal.{Journal}
use Rattle.can_record.specs.Tapes.{tape}
use Rattle.can_bus.specs.AutoRestart.{is_counting}
use Rattle.can_bus.specs.Heads.{next_head}
use Rattle.can_bus.specs.Answer.{Answers}
use Rattle.can_record.specs.Outcomes.{done_reply}
use Rattle.can_event.specs.declared.stats.IfaceStats.{IfaceStats}
use Rattle.can_bus.specs.Stats.{socket_stats_of, iface_stats_of}
use Rattle.can_dialog.specs.declared.port.PortRefusal.{PortRefusal}
use Rattle.can_dialog.specs.declared.port.PortRefusal.TheVariants as port
use Rattle.can_dialog.specs.Calls.{Call, reply_to_rule}
use Rattle.can_dialog.specs.Calls.{Reply as CallReply}
use Rattle.can_session.specs.Wires.{Schedule, load_at}
use Rattle.can_dialog.specs.Calls.Call.{Names, Attach, Open, Close, SetFilters, SetOption, Send}
use Rattle.can_dialog.specs.Calls.Call.{Receive, Restart, Attempt, CountsOfSocket, CountsOfIface}
use Rattle.can_dialog.specs.Calls.Call.{CountersOfIface, LoadAt, Inject, CountsRules, EndsRules, Down}

-- A bus as a port: each call is one event on the bus, except for look-ups and calls about rules.

-- the names of the interfaces, the bus, its fault plan, and the schedule of its attempts if it has bit rates
pub record NamedBus : Type 0 where
  pub names : List (List ℕ)
  pub journal : Journal
  pub plan : PlanSeen
  pub schedule : Option Schedule

-- the number of the next attempt that tries a frame
abbrev pub next_number_on : NamedBus → ℕ
next_number_on bus = length (tape bus.journal.history)

-- the interface and the frame that the next attempt tries
abbrev pub head_on : NamedBus → Option (ℕ × CanFrame)
head_on bus = next_head bus.journal.config bus.journal.history

-- an attempt without a frame takes time: the bus has bit rates, and an interface waits for its restart
abbrev pub waits_in_time : NamedBus → Bool
waits_in_time bus = is_some bus.schedule && is_counting bus.journal.config bus.journal.history

-- the verdict of the next attempt, if the source returns this verdict
abbrev pub verdict_on : NamedBus → Verdict → Verdict
verdict_on bus source = given source bus.plan (next_number_on bus) (head_on bus)

-- the decision for the next attempt: its verdict and the rule that decided it, if any
abbrev pub decision_on : NamedBus → Verdict → Decision
decision_on bus source = decided_for source bus.plan (next_number_on bus) (head_on bus)

-- the plan after the next attempt
abbrev pub plan_left : NamedBus → Verdict → PlanSeen
plan_left bus source = plan_after source bus.plan (next_number_on bus) (head_on bus)

-- a reply of the bus, converted into a reply of a port
abbrev pub passed_on : {A : Type 0} → Result A Refusal → Result A PortRefusal
passed_on (Ok a) = Ok a
passed_on (Err why) = Err (port.Bus why)

-- the interface with this index in the list of names, or a refusal if there is no index
abbrev pub interface_at : Option ℕ → Result ℕ PortRefusal
interface_at None = Err (port.Bus refusal.NoInterface)
interface_at (Some iface) = Ok iface

-- the error counters in the statistics of an interface: 0/0 if there is no such interface
abbrev pub counters_in : Option IfaceStats → ErrorCounts
counters_in None = at_start
counters_in (Some counts) = counts.counters

-- the bus handles one event and replies
abbrev pub IsEvent : {A : Type 0} → (A → Reply) → NamedBus → Event → Result A PortRefusal → NamedBus → Type 0
IsEvent {A} told old event answer new =
    (outcome : Result A Refusal)
    × (answer ≡ passed_on outcome)
    × Answers told old.journal event outcome new.journal
    × (new.names ≡ old.names)
    × (new.plan ≡ old.plan)
    × (new.schedule ≡ old.schedule)

-- the plan accepts a fault rule, or refuses the rule and gives the reason
abbrev pub IsRuleAnswered : NamedBus → List ℕ → Result (Unit {0}) PortRefusal → NamedBus → Type 0
IsRuleAnswered old rule answer new =
    (outcome : Result (Unit {0}) RuleRefusal)
    × (answer ≡ reply_to_rule outcome)
    × Injected old.names rule old.plan outcome new.plan
    × (new ≡ record old { plan = new.plan })

-- the effect of each call on a bus with names
abbrev pub BusStep : NamedBus → (call : Call) → CallReply call → NamedBus → Type 0
BusStep old Names answer new = (answer ≡ old.names) × (new ≡ old)
BusStep old (Attach name) answer new = (answer ≡ interface_at (place_of old.names name)) × (new ≡ old)
BusStep old (Open iface capacity) answer new = IsEvent reply.Opened old (event.Open iface capacity) answer new
BusStep old (Close socket) answer new = IsEvent reply.Closed old (event.Close socket) answer new
BusStep old (SetFilters socket filters) answer new = IsEvent done_reply old (event.SetFilters socket filters) answer new
BusStep old (SetOption socket option) answer new = IsEvent done_reply old (event.SetOption socket option) answer new
BusStep old (Send socket frame) answer new = IsEvent reply.Sent old (event.Send socket frame) answer new
BusStep old (Receive socket) answer new = IsEvent reply.Received old (event.Receive socket) answer new
BusStep old (Restart iface moment) answer new = IsEvent done_reply old (event.Restart iface moment) answer new
BusStep old (Attempt moment verdict) answer new = IsEvent reply.Attempted old (event.Attempt moment verdict) answer new
BusStep old (CountsOfSocket socket) answer new =
    (answer ≡ socket_stats_of old.journal.config old.journal.history socket.0) × (new ≡ old)
BusStep old (CountsOfIface iface) answer new =
    (answer ≡ iface_stats_of old.journal.config old.journal.history iface) × (new ≡ old)
BusStep old (CountersOfIface iface) answer new =
    (answer ≡ counters_in (iface_stats_of old.journal.config old.journal.history iface)) × (new ≡ old)
BusStep old (LoadAt moment) answer new = (answer ≡ load_at moment old.schedule) × (new ≡ old)
BusStep old (Inject rule) answer new = IsRuleAnswered old rule answer new
BusStep old CountsRules answer new = (answer ≡ length old.plan.rules) × (new ≡ old)
BusStep old EndsRules answer new = new ≡ record old { plan = without_rules old.plan }
BusStep old (Down iface moment) answer new = IsEvent done_reply old (event.Down iface moment) answer new
