use Rattle.std.proofs.Common.{◌≡◌, ℕ, Bool, true, List, length, Option, Some, Result, Ok, Err, refl, sym, subst, ap, ◌∙◌, inr}
use Rattle.can_confine.specs.Confinement.{ErrorCounts}
use Rattle.can_meter.specs.Readings.{Readings}
use Rattle.can_event.specs.declared.event.Event.{Event}
use Rattle.can_event.specs.declared.event.Event.TheVariants as event
use Rattle.can_event.specs.declared.reply.Reply.{Reply}
use Rattle.can_event.specs.declared.received.Received.{Received}
use Rattle.can_event.specs.declared.socket_id.SocketId.{SocketId}
use Rattle.can_event.specs.Replies.{received_into, taken_item, taken_reply}
use Rattle.can_dialog.specs.Calls.Call.{Receive, Send}
use Rattle.can_frame.specs.Frames.{CanFrame}
use Rattle.can_record.specs.Outcomes.{done_reply}
use Rattle.can_event.specs.declared.reply.Reply.TheVariants as reply
use Rattle.std.specs.Prelude.{slice_get, IfOk}
use Rattle.can_dialog.specs.declared.port.PortRefusal.{PortRefusal}
use Rattle.can_dialog.specs.Calls.{Replies, Denies, Steps}
use Rattle.can_event.specs.declared.stats.SocketStats.{SocketStats}
use Rattle.can_event.specs.declared.stats.IfaceStats.{IfaceStats}
use Rattle.can_station.specs.Held.{StationSeen}
use Rattle.can_station.specs.Passes.{PassSeen, Called, HadNoPassLeft, InSome, Suits, same}
use Rattle.can_station.specs.Waits.{AreCounts}
use Rattle.can_station.specs.declared.refusals.StationRefusal.{StationRefusal}
use Rattle.can_station.specs.declared.refusals.StationRefusal.TheVariants as station
use Rattle.can_proto.specs.declared.answer.BusLoad.{BusLoad}
use Rattle.can_wire.specs.Times.{rates_of}
use Rattle.can_hub.specs.Buses.{BusSeen, IsFirstNamed, config_on, items_on, names_on, rates_on}
use Rattle.can_hub.specs.PassSteps.{EnteredSeen, PortSeen, PassStep, CountsSocket, CountsIface, entered_with, reply_of_station, refused_as, socket_room_in, with_socket_room, OnPort, SomeNamed, SomeNamedFull, Attaches, GaugeReports, ReportsCounters, ReportsRates, InjectsNamed, Injects, RulesLeft}

-- The port over these buses with this entered station.
abbrev over : List BusSeen → EnteredSeen → PortSeen
over buses e = record { buses = buses; entered = Some e }

module _ (F : Type 0) (buses : List BusSeen) (now : EnteredSeen) (pass : PassSeen) where
  on : {A : Type 0} (told : A → Reply) (e : Event) (outcome : Result A StationRefusal) → Called told now.station.number now.pass e outcome pass
      → OnPort told (over buses now) e (reply_of_station outcome) (over buses (record now { pass = pass }))
  on told e outcome called = ((outcome, pass, refl, called, refl), refl)

  -- The event that the station carries out for the pass.
  abbrev made : Event → Event
  made e = with_socket_room e (socket_room_in buses (Some now))

  gives : (e : Event) (r : Reply) → Called same now.station.number now.pass (made e) (Ok r) pass → Suits (made e) r → Replies (PassStep F) (over buses now) e r (over buses (record now { pass = pass }))
  gives (event.Open iface asked) (reply.Opened socket) called fits = on (λ x. reply.Opened x) _ (Ok socket) called
  gives (event.Close socket) (reply.Closed counts) called fits = on (λ x. reply.Closed x) _ (Ok counts) called
  gives (event.SetFilters socket filters) reply.Done called fits = on done_reply _ (Ok tt) called
  gives (event.SetOption socket option) reply.Done called fits = on done_reply _ (Ok tt) called
  gives (event.Send socket frame) (reply.Sent number) called fits = on (λ x. reply.Sent x) _ (Ok number) called
  gives (event.Receive socket) (reply.Received item) called fits = on (λ x. reply.Received x) _ (Ok item) called
  gives (event.Attempt moment verdict) (reply.Attempted attempt) called fits = on reply.Attempted _ (Ok attempt) called
  gives (event.Restart iface moment) reply.Done called fits = on done_reply _ (Ok tt) called
  gives (event.Down iface moment) reply.Done called fits = on done_reply _ (Ok tt) called
  gives (event.Open iface asked) (reply.Refused why) called fits = on (λ x. reply.Opened x) _ (Err (station.Bus why)) (inr called.0, called.1)
  gives (event.Close socket) (reply.Refused why) called fits = on (λ x. reply.Closed x) _ (Err (station.Bus why)) (inr called.0, called.1)
  gives (event.Send socket frame) (reply.Refused why) called fits = on (λ x. reply.Sent x) _ (Err (station.Bus why)) (inr called.0, called.1)
  gives (event.Receive socket) (reply.Refused why) called fits = on (λ x. reply.Received x) _ (Err (station.Bus why)) (inr called.0, called.1)
  gives (event.Attempt moment verdict) (reply.Refused why) called fits = on reply.Attempted _ (Err (station.Bus why)) (inr called.0, called.1)
  gives e (reply.Refused why) called fits = on done_reply _ (Err (station.Bus why)) (inr called.0, called.1)
  gives e r called fits = absurd fits

  -- A receive call that writes the received item into `room`.
  taken : (room : Received) (socket : SocketId) (outcome : Result Bool StationRefusal) → Called (taken_reply room) now.station.number now.pass (event.Receive socket) outcome pass
      → PassStep F (over buses now) (Receive socket) (received_into room (reply_of_station outcome)) (over buses (record now { pass = pass }))
  taken room socket (Ok is_item) called = on (λ x. reply.Received x) _ (Ok (taken_item room is_item)) called
  taken room socket (Err (station.Bus why)) called = on (λ x. reply.Received x) _ (Err (station.Bus why)) called
  taken room socket (Err station.WrongStation) called = on (λ x. reply.Received x) _ (Err station.WrongStation) called

  -- A refusal has the same effect on the pass, whatever the call returns on success.
  refused : {A : Type 0} (told : A → Reply) (e : Event) (why : StationRefusal) → Called same now.station.number now.pass e (Err why) pass → OnPort told (over buses now) e (Err (refused_as why)) (over buses (record now { pass = pass }))
  refused told e (station.Bus why) called = on told e (Err (station.Bus why)) called
  refused told e station.WrongStation called = on told e (Err station.WrongStation) called

  refuses : (e : Event) (why : StationRefusal) → Called same now.station.number now.pass (made e) (Err why) pass → Denies (PassStep F) (over buses now) e (refused_as why) (over buses (record now { pass = pass }))
  refuses (event.Open iface asked) why called = refused (λ x. reply.Opened x) _ why called
  refuses (event.Close socket) why called = refused (λ x. reply.Closed x) _ why called
  refuses (event.Send socket frame) why called = refused (λ x. reply.Sent x) _ why called
  refuses (event.Receive socket) why called = refused (λ x. reply.Received x) _ why called
  refuses (event.Attempt moment verdict) why called = refused reply.Attempted _ why called
  refuses e why called = refused done_reply _ why called

  steps : (e : Event) (outcome : Result Reply StationRefusal) → Called same now.station.number now.pass (made e) outcome pass → IfOk outcome (λ r. Suits (made e) r)
      → Steps (PassStep F) (over buses now) e (reply_of_station outcome) (over buses (record now { pass = pass }))
  steps e (Ok r) called fits = gives e r called fits
  steps e (Err why) called fits = refuses e why called

-- A call on the entered station is a call on the port.
pub on_pass : (F : Type 0) (old : PortSeen) (buses : List BusSeen) (inside : Option EnteredSeen) (now : EnteredSeen) (pass : PassSeen) (e : Event) (room : ℕ) (outcome : Result Reply StationRefusal) (answer : Result Reply PortRefusal)
    → ◌≡◌ {A = PortSeen} (record { buses = buses; entered = inside }) old → inside ≡ Some now → room ≡ items_on (slice_get buses now.station.number) → answer ≡ reply_of_station outcome
    → Called same now.station.number now.pass (with_socket_room e room) outcome pass → IfOk outcome (λ r. Suits (with_socket_room e room) r)
    → Steps (PassStep F) old e answer (over buses (record now { pass = pass }))
on_pass F old buses inside now pass e room outcome answer seen is has told called fits =
    let after : PortSeen = over buses (record now { pass = pass }) in
    let stepped : Steps (PassStep F) (over buses now) e (reply_of_station outcome) after =
    steps F buses now pass e outcome (subst (λ (n : ℕ). Called same now.station.number now.pass (with_socket_room e n) outcome pass) has called) (subst (λ (n : ℕ). IfOk outcome (λ r. Suits (with_socket_room e n) r)) has fits) in
    subst (λ (o : PortSeen). Steps (PassStep F) o e answer after) (ap (λ (i : Option EnteredSeen). record { buses = buses; entered = i }) (sym is) ∙ seen)
    (subst (λ (a : Result Reply PortRefusal). Steps (PassStep F) (over buses now) e a after) (sym told) stepped)

-- A send on the entered station is a call on the port.
pub sent : (F : Type 0) (old : PortSeen) (buses : List BusSeen) (inside : Option EnteredSeen) (now : EnteredSeen) (pass : PassSeen) (socket : SocketId) (frame : CanFrame) (outcome : Result ℕ StationRefusal) (answer : Result ℕ PortRefusal)
    → ◌≡◌ {A = PortSeen} (record { buses = buses; entered = inside }) old → inside ≡ Some now → answer ≡ reply_of_station outcome
    → Called reply.Sent now.station.number now.pass (event.Send socket frame) outcome pass
    → PassStep F old (Send socket frame) answer (over buses (record now { pass = pass }))
sent F old buses inside now pass socket frame outcome answer seen is told called =
    let after : PortSeen = over buses (record now { pass = pass }) in
    subst (λ (o : PortSeen). PassStep F o (Send socket frame) answer after) (ap (λ (i : Option EnteredSeen). record { buses = buses; entered = i }) (sym is) ∙ seen)
    (subst (λ (a : Result ℕ PortRefusal). PassStep F (over buses now) (Send socket frame) a after) (sym told) (on F buses now pass reply.Sent (event.Send socket frame) outcome called))

-- A receive call with `room` on the entered station is a call on the port.
pub received : (F : Type 0) (old : PortSeen) (buses : List BusSeen) (inside : Option EnteredSeen) (now : EnteredSeen) (pass : PassSeen) (socket : SocketId) (room : Received) (outcome : Result Bool StationRefusal) (answer : Result Bool PortRefusal)
    → ◌≡◌ {A = PortSeen} (record { buses = buses; entered = inside }) old → inside ≡ Some now → answer ≡ reply_of_station outcome
    → Called (taken_reply room) now.station.number now.pass (event.Receive socket) outcome pass
    → PassStep F old (Receive socket) (received_into room answer) (over buses (record now { pass = pass }))
received F old buses inside now pass socket room outcome answer seen is told called =
    let after : PortSeen = over buses (record now { pass = pass }) in
    subst (λ (o : PortSeen). PassStep F o (Receive socket) (received_into room answer) after) (ap (λ (i : Option EnteredSeen). record { buses = buses; entered = i }) (sym is) ∙ seen)
    (subst (λ (a : Result Bool PortRefusal). PassStep F (over buses now) (Receive socket) (received_into room a) after) (sym told) (taken F buses now pass room socket outcome called))

-- The port returns the counters that its gauge returns.
pub on_gauge : (old : PortSeen) (buses : List BusSeen) (inside : Option EnteredSeen) (now : EnteredSeen) (gauge : Readings) (iface : ℕ) (answer : ErrorCounts)
    → ◌≡◌ {A = PortSeen} (record { buses = buses; entered = inside }) old → inside ≡ Some now → GaugeReports now.gauge iface answer gauge
    → ReportsCounters old.entered iface answer (Some (record now { gauge = gauge })) × (buses ≡ old.buses)
on_gauge old buses inside now gauge iface answer seen is tells =
    subst (λ (o : PortSeen). ReportsCounters o.entered iface answer (Some (record now { gauge = gauge })) × (buses ≡ o.buses)) seen
    (subst (λ (o : Option EnteredSeen). ReportsCounters o iface answer (Some (record now { gauge = gauge }))) (sym is) (gauge, tells, refl), refl)

-- The port returns the counts that the entered station returns.
pub counted : (F : Type 0) (old : PortSeen) (buses : List BusSeen) (inside : Option EnteredSeen) (now : EnteredSeen) (socket iface : ℕ) (counts : Option SocketStats × Option IfaceStats)
    → ◌≡◌ {A = PortSeen} (record { buses = buses; entered = inside }) old → inside ≡ Some now → InSome F now.station (λ held. AreCounts held.journal socket iface counts)
    → CountsSocket F old.entered socket counts.0 × CountsIface F old.entered iface counts.1
counted F old buses inside now socket iface counts seen is (held, state, found) =
    subst (λ (o : PortSeen). CountsSocket F o.entered socket counts.0 × CountsIface F o.entered iface counts.1) seen
    (subst (λ (o : Option EnteredSeen). CountsSocket F o socket counts.0 × CountsIface F o iface counts.1) (sym is) ((held, state, found.0), (held, state, found.1)))

module _ (old : PortSeen) (buses : List BusSeen) (inside : Option EnteredSeen) (name : List ℕ) (at : ℕ × ℕ) (seen : ◌≡◌ {A = PortSeen} (record { buses = buses; entered = inside }) old) (first : IsFirstNamed buses name (Some at)) where
  -- Some bus has an interface with the name, because one was found.
  pub some_named : SomeNamed old.buses name
  some_named = subst (λ (o : PortSeen). SomeNamed o.buses name) seen (at.0, at.1, first)

  -- The station of the bus that was found had no pass left.
  pub some_named_full : (F : Type 0) (here : StationSeen) → here.number ≡ at.0 → config_on (slice_get buses at.0) ≡ Some here.config → HadNoPassLeft F here → SomeNamedFull F old.buses name
  some_named_full F here is config full =
      subst (λ (o : PortSeen). SomeNamedFull F o.buses name) seen
      (here, at.1, subst (λ (n : ℕ). IsFirstNamed buses name (Some (n, at.1))) (sym is) first, subst (λ (n : ℕ). config_on (slice_get buses n) ≡ Some here.config) (sym is) config, full)

  -- The station of the bus that was found was entered.
  pub attached : (F : Type 0) (here : StationSeen) (gauge : Readings) (pass : PassSeen) → here.number ≡ at.0 → config_on (slice_get buses at.0) ≡ Some here.config → gauge.number ≡ here.number → pass.number ≡ here.number
      → Attaches F old name (Ok at.1) (over buses (entered_with here gauge pass))
  attached F here gauge pass is config metered new =
      subst (λ (o : PortSeen). Attaches F o name (Ok at.1) (over buses (entered_with here gauge pass))) seen
      (here, gauge, pass, subst (λ (n : ℕ). IsFirstNamed buses name (Some (n, at.1))) (sym is) first, subst (λ (n : ℕ). config_on (slice_get buses n) ≡ Some here.config) (sym is) config, metered, new, refl)

-- A rule that the entered station accepts or refuses is an inject call on the port.
pub injected : (F : Type 0) (old : PortSeen) (buses : List BusSeen) (inside : Option EnteredSeen) (now : EnteredSeen) (rule : List ℕ) (found : Option (List (List ℕ))) (answer : Result (Unit {0}) PortRefusal)
    → ◌≡◌ {A = PortSeen} (record { buses = buses; entered = inside }) old → inside ≡ Some now → found ≡ names_on (slice_get buses now.station.number)
    → InjectsNamed F now.station found rule answer → Injects F old.buses old.entered rule answer
injected F old buses inside now rule found answer seen is named came =
    subst (λ (o : PortSeen). Injects F o.buses o.entered rule answer) (ap (λ (i : Option EnteredSeen). record { buses = buses; entered = i }) (sym is) ∙ seen)
    (subst (λ (ns : Option (List (List ℕ))). InjectsNamed F now.station ns rule answer) named came)

-- A load with the bit rates of the entered bus is a valid answer of the port.
pub rates_told : (old : PortSeen) (buses : List BusSeen) (inside : Option EnteredSeen) (now : EnteredSeen) (load : BusLoad)
    → ◌≡◌ {A = PortSeen} (record { buses = buses; entered = inside }) old → inside ≡ Some now → rates_of load.bitrate load.dbitrate ≡ rates_on (slice_get buses now.station.number) → ReportsRates old.buses old.entered load
rates_told old buses inside now load seen is rates =
    subst (λ (o : PortSeen). ReportsRates o.buses o.entered load) (ap (λ (i : Option EnteredSeen). record { buses = buses; entered = i }) (sym is) ∙ seen) rates

-- The port returns the number of rules of the entered station.
pub rules_left : (F : Type 0) (old : PortSeen) (buses : List BusSeen) (inside : Option EnteredSeen) (now : EnteredSeen) (count : ℕ)
    → ◌≡◌ {A = PortSeen} (record { buses = buses; entered = inside }) old → inside ≡ Some now → InSome F now.station (λ held. count ≡ length held.plan.rules) → RulesLeft F old.entered count
rules_left F old buses inside now count seen is left =
    subst (λ (o : PortSeen). RulesLeft F o.entered count) (ap (λ (i : Option EnteredSeen). record { buses = buses; entered = i }) (sym is) ∙ seen) left
