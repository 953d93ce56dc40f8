use Rattle.std.specs.Prelude.{◌≡◌, ◌<◌, ◌≤◌, ◌⊎◌, ℕ, Bool, true, false, List, length}
use Rattle.std.specs.Prelude.{Option, Some, None, Result, Ok, Err, slice_get}
use mathlib.Core.List.{IsSuffix}
use Rattle.can_confine.specs.Confinement.{ErrorCounts, at_start}
use Rattle.can_meter.specs.Publications.{newest, published}
use Rattle.can_meter.specs.Readings.{Readings, knowing_of}
use Rattle.can_event.specs.declared.event.Event.{Event}
use Rattle.can_event.specs.declared.event.Event.TheVariants as event
use Rattle.can_event.specs.declared.reply.Reply.{Reply}
use Rattle.can_event.specs.declared.reply.Reply.TheVariants as reply
use Rattle.can_event.specs.declared.refusal.Refusal.TheVariants as refusal
use Rattle.can_event.specs.declared.stats.SocketStats.{SocketStats}
use Rattle.can_event.specs.declared.stats.IfaceStats.{IfaceStats}
use Rattle.can_record.specs.Outcomes.{done_reply}
use Rattle.can_bus.specs.Stats.{socket_stats_of, iface_stats_of}
use Rattle.can_dialog.specs.declared.port.PortRefusal.{PortRefusal}
use Rattle.can_dialog.specs.declared.port.PortRefusal.TheVariants as port
use Rattle.can_dialog.specs.Calls.{Call, reply_to_rule}
use Rattle.can_dialog.specs.Calls.{Reply as CallReply}
use Rattle.can_dialog.specs.Calls.Call.{Names, Attach, Open, Close, SetFilters, SetOption, Send}
use Rattle.can_dialog.specs.Calls.Call.{Receive, Restart, Down, Attempt, CountsOfSocket, CountsOfIface}
use Rattle.can_dialog.specs.Calls.Call.{CountersOfIface, LoadAt, Inject, CountsRules, EndsRules}
use Rattle.can_rules.specs.declared.rules.RuleRefusal.{RuleRefusal}
use Rattle.can_station.specs.Held.{StationSeen}
use Rattle.can_station.specs.Passes.{PassSeen, Called, HadNoPassLeft, InSome, InjectsIn}
use Rattle.can_station.specs.declared.refusals.StationRefusal.{StationRefusal}
use Rattle.can_station.specs.declared.refusals.StationRefusal.TheVariants as station
use Rattle.can_wire.specs.Times.{rates_of}
use Rattle.can_proto.specs.Spelling.{no_bus_load}
use Rattle.can_proto.specs.declared.answer.BusLoad.{BusLoad}
use Rattle.can_hub.specs.Buses.{BusSeen, IsFirstNamed, IsStationOn, items_on, names_on, rates_on, all_names}

-- A pass used as a port. Each call is an event of the station, except look-ups and calls about rules.

-- An entered station, its gauge with the publications that the gauge has seen, and the pass.
pub record EnteredSeen : Type 0 where
  pub station : StationSeen
  pub gauge : Readings
  pub pass : PassSeen

-- A port: the buses of its hub and the station that was entered, if one was.
pub record PortSeen : Type 0 where
  pub buses : List BusSeen
  pub entered : Option EnteredSeen

-- The entered station with this gauge and this pass.
abbrev pub entered_with : StationSeen → Readings → PassSeen → EnteredSeen
entered_with station gauge pass = record { station = station; gauge = gauge; pass = pass }

-- The number of items that a socket holds on the entered bus, or 0 if no bus was entered.
abbrev pub socket_room_in : List BusSeen → Option EnteredSeen → ℕ
socket_room_in buses None = 0
socket_room_in buses (Some e) = items_on (slice_get buses e.station.number)

-- The event that the station carries out. In an open event, the number of items that a socket holds is replaced with
-- the number set by the bus.
abbrev pub with_socket_room : Event → ℕ → Event
with_socket_room (event.Open iface asked) room = event.Open iface room
with_socket_room e room = e

-- The refusal that the port returns for the station's refusal.
abbrev pub refused_as : StationRefusal → PortRefusal
refused_as (station.Bus why) = port.Bus why
refused_as station.WrongStation = port.WrongStation

-- The reply that the port returns for the station's reply.
abbrev pub reply_of_station : {A : Type 0} → Result A StationRefusal → Result A PortRefusal
reply_of_station (Ok a) = Ok a
reply_of_station (Err why) = Err (refused_as why)

-- The result of a call on the entered station. If no station was entered, the port replies `NoSocket`.
abbrev pub OnPass :
    {A : Type 0} → (A → Reply) → Option EnteredSeen → Event → Result A PortRefusal → Option EnteredSeen → Type 0
OnPass {A} told None e answer new = (answer ≡ Err (port.Bus refusal.NoSocket)) × (new ≡ None)
OnPass {A} told (Some old) e answer new =
    (outcome : Result A StationRefusal) × (pass : PassSeen)
    × (answer ≡ reply_of_station outcome)
    × Called told old.station.number old.pass e outcome pass
    × (new ≡ Some (record old { pass = pass }))

-- The result of a call on the port. The station carries out the call, and the buses of the hub do not change.
abbrev pub OnPort : {A : Type 0} → (A → Reply) → PortSeen → Event → Result A PortRefusal → PortSeen → Type 0
OnPort told old e answer new = OnPass told old.entered e answer new.entered × (new.buses ≡ old.buses)

-- Some bus has an interface with this name.
abbrev pub SomeNamed : List BusSeen → List ℕ → Type 0
SomeNamed buses name = (bus : ℕ) × (iface : ℕ) × IsFirstNamed buses name (Some (bus, iface))

-- The first bus that has an interface with this name had no pass left.
abbrev pub SomeNamedFull : Type 0 → List BusSeen → List ℕ → Type 0
SomeNamedFull F buses name =
    (at : StationSeen) × (iface : ℕ)
    × IsFirstNamed buses name (Some (at.number, iface))
    × IsStationOn buses at
    × HadNoPassLeft F at

-- The port enters the station of the bus with this interface name and takes a gauge and a pass. Nothing changes if no
-- bus has the name, if the gauge cannot be allocated, or if no pass is left.
abbrev pub Attaches : Type 0 → PortSeen → List ℕ → Result ℕ PortRefusal → PortSeen → Type 0
Attaches F old name (Ok iface) new =
    (at : StationSeen) × (gauge : Readings) × (pass : PassSeen)
    × IsFirstNamed old.buses name (Some (at.number, iface))
    × IsStationOn old.buses at
    × (gauge.number ≡ at.number)
    × (pass.number ≡ at.number)
    × (new ≡ record { buses = old.buses; entered = Some (entered_with at gauge pass) })
Attaches F old name (Err (port.Bus refusal.NoInterface)) new = IsFirstNamed old.buses name None × (new ≡ old)
Attaches F old name (Err (port.Bus refusal.NoMemory)) new = SomeNamed old.buses name × (new ≡ old)
Attaches F old name (Err port.TooManyPasses) new = SomeNamedFull F old.buses name × (new ≡ old)
Attaches F old name (Err _) new = ⊥

-- A gauge returns the newest publication of an interface's error counters that it has seen, and it never forgets a
-- publication. For an interface that its meter does not have, it returns counters of 0/0.
abbrev pub GaugeReports : Readings → ℕ → ErrorCounts → Readings → Type 0
GaugeReports old iface answer new =
    ((iface < old.ifaces)
    × (answer ≡ (newest (published new.lists iface)).counters)
    × IsSuffix (published old.lists iface) (published new.lists iface)
    × (new ≡ knowing_of old iface (published new.lists iface)))
    ⊎ ((old.ifaces ≤ iface) × (answer ≡ at_start) × (new ≡ old))

-- The gauge of the entered station returns the error counters of an interface. They are 0/0 if no station was entered.
abbrev pub ReportsCounters : Option EnteredSeen → ℕ → ErrorCounts → Option EnteredSeen → Type 0
ReportsCounters None iface answer new = (answer ≡ at_start) × (new ≡ None)
ReportsCounters (Some old) iface answer new =
    (gauge : Readings) × GaugeReports old.gauge iface answer gauge × (new ≡ Some (record old { gauge = gauge }))

-- The load contains the bit rates of the entered bus, or only zeros if no bus was entered. The definition does not say
-- how busy the bus was.
abbrev pub ReportsRates : List BusSeen → Option EnteredSeen → BusLoad → Type 0
ReportsRates buses None answer = answer ≡ no_bus_load
ReportsRates buses (Some e) answer =
    rates_of answer.bitrate answer.dbitrate ≡ rates_on (slice_get buses e.station.number)

-- The counts of this socket in some state of the entered station; the definition does not say which state. If no
-- station was entered, the socket is not open.
abbrev pub CountsSocket : Type 0 → Option EnteredSeen → ℕ → Option SocketStats → Type 0
CountsSocket F None socket answer = answer ≡ None
CountsSocket F (Some e) socket answer =
    InSome F e.station (λ held. answer ≡ socket_stats_of held.journal.config held.journal.history socket)

-- The counts of this interface in some state of the entered station; the definition does not say which state. If no
-- station was entered, the interface does not exist.
abbrev pub CountsIface : Type 0 → Option EnteredSeen → ℕ → Option IfaceStats → Type 0
CountsIface F None iface answer = answer ≡ None
CountsIface F (Some e) iface answer =
    InSome F e.station (λ held. answer ≡ iface_stats_of held.journal.config held.journal.history iface)

-- The reply to adding a rule, in some state of a station whose interfaces have these names; the definition does not say
-- which state. Without names the reply is `NoSocket`.
abbrev pub InjectsNamed :
    Type 0 → StationSeen → Option (List (List ℕ)) → List ℕ → Result (Unit {0}) PortRefusal → Type 0
InjectsNamed F station None rule answer = answer ≡ Err (port.Bus refusal.NoSocket)
InjectsNamed F station (Some names) rule answer =
    (outcome : Result (Unit {0}) RuleRefusal)
    × InjectsIn F station names rule outcome
    × (answer ≡ reply_to_rule outcome)

-- The reply to adding a rule, in some state of the entered station. If no station was entered, the reply is `NoSocket`.
abbrev pub Injects : Type 0 → List BusSeen → Option EnteredSeen → List ℕ → Result (Unit {0}) PortRefusal → Type 0
Injects F buses None rule answer = answer ≡ Err (port.Bus refusal.NoSocket)
Injects F buses (Some e) rule answer =
    InjectsNamed F e.station (names_on (slice_get buses e.station.number)) rule answer

-- The number of rules left in some state of the entered station; the definition does not say which state. The number is
-- 0 if no station was entered.
abbrev pub RulesLeft : Type 0 → Option EnteredSeen → ℕ → Type 0
RulesLeft F None answer = answer ≡ 0
RulesLeft F (Some e) answer = InSome F e.station (λ held. answer ≡ length held.plan.rules)

-- The effect and the reply of a call on a port that uses a pass. The source of the station's verdicts has type F.
abbrev pub PassStep : Type 0 → PortSeen → (call : Call) → CallReply call → PortSeen → Type 0
PassStep F old Names answer new = (answer ≡ all_names old.buses) × (new ≡ old)
PassStep F old (Attach name) answer new = Attaches F old name answer new
PassStep F old (Open iface asked) answer new =
    OnPort reply.Opened old (event.Open iface (socket_room_in old.buses old.entered)) answer new
PassStep F old (Close socket) answer new = OnPort reply.Closed old (event.Close socket) answer new
PassStep F old (SetFilters socket filters) answer new =
    OnPort done_reply old (event.SetFilters socket filters) answer new
PassStep F old (SetOption socket option) answer new = OnPort done_reply old (event.SetOption socket option) answer new
PassStep F old (Send socket frame) answer new = OnPort reply.Sent old (event.Send socket frame) answer new
PassStep F old (Receive socket) answer new = OnPort reply.Received old (event.Receive socket) answer new
PassStep F old (Restart iface moment) answer new = OnPort done_reply old (event.Restart iface moment) answer new
PassStep F old (Down iface moment) answer new = OnPort done_reply old (event.Down iface moment) answer new
PassStep F old (Attempt moment verdict) answer new =
    OnPort reply.Attempted old (event.Attempt moment verdict) answer new
PassStep F old (CountsOfSocket socket) answer new = CountsSocket F old.entered socket.0 answer × (new ≡ old)
PassStep F old (CountsOfIface iface) answer new = CountsIface F old.entered iface answer × (new ≡ old)
PassStep F old (CountersOfIface iface) answer new =
    ReportsCounters old.entered iface answer new.entered × (new.buses ≡ old.buses)
PassStep F old (LoadAt moment) answer new = ReportsRates old.buses old.entered answer × (new ≡ old)
PassStep F old (Inject rule) answer new = Injects F old.buses old.entered rule answer × (new ≡ old)
PassStep F old CountsRules answer new = RulesLeft F old.entered answer × (new ≡ old)
PassStep F old EndsRules answer new = new ≡ old
