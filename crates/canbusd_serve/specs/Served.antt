use Rattle.std.specs.Prelude.{◌≡◌, ◌⊎◌, ◌<◌, ℕ, List, [], ◌∷◌, ◌++◌, length, map, All}
use Rattle.std.specs.Prelude.{Option, IsSomeAnd, codes, decimal, slice_get, take}
use Rattle.std.specs.List.{AllZip, slice_index_or}
use Rattle.std.specs.Io.KnownBytes.{Appends}
use Rattle.can_frame.specs.Names.{AreNames, names_in}
use Rattle.can_bus.specs.Legal.{IsLegal}
use Rattle.can_station.specs.declared.gate.Open.{Open}
use Rattle.can_event.specs.declared.bus_config.BusConfig.{BusConfig}
use Rattle.can_event.specs.Events.{IsConfig}
use Rattle.can_record.specs.Journal.{Journal}
use Rattle.can_station.specs.declared.pass.Settled.{Settled}
use Rattle.can_bus.specs.declared.bus.BusFault.TheVariants.{BadConfig, NoMemory}
use Rattle.can_hub.specs.declared.bench.Bench.{Bench}
use Rattle.can_hub.specs.Benches.{MakeHubWithin, buses_from}
use Rattle.can_hub.specs.Buses.{BusSeen}
use Rattle.can_hub.specs.HubBuses.{IsOfLongRuns}
use Rattle.canbusd_options.specs.declared.bus_word.BusWord.{BusWord}
use Rattle.can_fault.specs.declared.fault_source.Perfect.{Perfect}
use Rattle.canbusd_options.specs.declared.recording.Recording.{Recording}
use Rattle.canbusd_options.specs.declared.recording.Recording.TheVariants as recording
use Rattle.canbusd_options.specs.declared.serve_options.ServeOptions.{ServeOptions}
use Rattle.canbusd_io.specs.Buses.{IsPlan, config_of}
use Rattle.canbusd_io.specs.Files.{IsOfNames, IsOfPlan}
use Rattle.canbusd_io.specs.declared.program_error.ProgramError.{ProgramError}
use Rattle.canbusd_io.specs.declared.program_error.ProgramError.TheVariants as fault
use Rattle.canbusd_options.specs.BusWords.{first_name_of}
use Rattle.canbusd_options.specs.Options.{timing_at}

-- A server's buses, and the lines that the server writes at its end (own choice).

-- the bus matches the description in its BUS argument and the options
pub record IsBenchOf (o : ServeOptions) (bus : BusWord) (b : Bench Perfect Open) : Type 0 where
  pub names : b.names ≡ names_in bus.names.now
  pub good : AreNames b.names
  pub config : b.config ≡ config_of o.settings (length b.names)
  pub words : b.blanks.meter.words ≡ length b.names
  pub plan : IsPlan bus.script b.names b.plan
  pub pace_ms : b.pace_ms ≡ o.pace_ms
  pub rx_capacity : b.rx_capacity ≡ o.settings.rx_capacity

-- each bus matches the description in its BUS argument and the options
abbrev pub AreBenches : ServeOptions → List BusWord → List (Bench Perfect Open) → Type 0
AreBenches o buses benches = AllZip (λ bus b. IsBenchOf o bus b) buses benches

-- each bus of a server matches the description in the options
abbrev pub AreAllBenches : ServeOptions → List (Bench Perfect Open) → Type 0
AreAllBenches o benches = AreBenches o o.buses.items benches

-- each bus has the bit rates that the options contain at its index
abbrev pub AreBusesTimed : ServeOptions → List (Bench Perfect Open) → Type 0
AreBusesTimed o benches =
    (k : ℕ) (d : Bench Perfect Open)
    → k < length benches
    → (slice_index_or benches k d).timing ≡ timing_at o.timings.items k

-- each bus of a server matches the description in the options, with its bit rates
abbrev pub AreDescribed : ServeOptions → List (Bench Perfect Open) → Type 0
AreDescribed o benches = AreAllBenches o benches × AreBusesTimed o benches

-- a hub consists of the buses that the options of a server describe
abbrev pub IsDescribedHub : ServeOptions → List BusSeen → Type 0
IsDescribedHub o hub = (benches : List (Bench Perfect Open)) × AreDescribed o benches × (hub ≡ buses_from 0 benches)

-- some buses match the descriptions in these BUS arguments and the options
abbrev pub MakeBenches : ServeOptions → List BusWord → Type 0
MakeBenches o buses = (benches : List (Bench Perfect Open)) × AreBenches o buses benches

-- an error in a bus of a server: in its names or in its script
abbrev pub IsOfBus : BusWord → ProgramError → Type 0
IsOfBus bus why =
    IsOfNames bus.names.now why
    ⊎ (AreNames (names_in bus.names.now) × IsOfPlan bus.script (names_in bus.names.now) why)

-- an error in serving: the server cannot listen or write, its folder does not accept files, a bus got the pass of
-- another bus, or memory was refused
abbrev pub IsOfServing : ProgramError → Type 0
IsOfServing fault.CannotListen = Unit {0}
IsOfServing (fault.CannotOpen folder) = Unit {0}
IsOfServing (fault.WrongStation name) = Unit {0}
IsOfServing fault.Write = Unit {0}
IsOfServing fault.NoMemory = Unit {0}
IsOfServing why = ⊥

-- an error of a server with these buses: no hub can be made of them within these limits, memory for the hub was
-- refused, or serving failed
abbrev pub IsOfHub : (BusConfig → Type 0) → List (Bench Perfect Open) → ProgramError → Type 0
IsOfHub limits benches (fault.Buses BadConfig) = MakeHubWithin limits benches → ⊥
IsOfHub limits benches (fault.Buses NoMemory) = Unit {0}
IsOfHub limits benches why = IsOfServing why

-- the limits of a server's buses: the limits of a record or of long runs
abbrev pub limits_of : Recording → BusConfig → Type 0
limits_of recording.AtEnd = IsConfig
limits_of recording.Live = IsOfLongRuns
limits_of recording.Never = IsOfLongRuns

-- an error in one of the buses of a server; the buses before it match their BUS arguments
abbrev pub IsOfBuses : ServeOptions → ProgramError → Type 0
IsOfBuses o why =
    (i : ℕ) × MakeBenches o (take i o.buses.items) × IsSomeAnd (slice_get o.buses.items i) (λ bus. IsOfBus bus why)

-- an error of a server: in one of its buses, in serving, or in a server with the buses that the options describe
abbrev pub IsOfServer : ServeOptions → ProgramError → Type 0
IsOfServer o why =
    IsOfBuses o why
    ⊎ (IsOfServing why
    ⊎ ((benches : List (Bench Perfect Open))
    × AreAllBenches o benches
    × IsOfHub (limits_of o.recording) benches why))

-- the history is legal
abbrev pub IsLegalEnd : Journal → Type 0
IsLegalEnd j = IsLegal j.config j.history

-- the last line for a bus: its first name and the number of its entries
abbrev pub bus_end_line : BusWord → Journal → List ℕ
bus_end_line bus j =
    codes "bus " ++ first_name_of bus.names.now ++ codes " entries " ++ decimal (length j.history) ++ 10 ∷ []

-- the last lines for all buses
abbrev pub end_lines : List BusWord → List Journal → List ℕ
end_lines [] ends = []
end_lines (bus ∷ buses) [] = []
end_lines (bus ∷ buses) (j ∷ ends) = bus_end_line bus j ++ end_lines buses ends

-- the line with the address of a server
abbrev pub listening_line : List ℕ → List ℕ
listening_line heard = codes "listening " ++ heard ++ 10 ∷ []

-- the address leaves the choice of the port to the system: its port is 0
abbrev pub LeavesPort : List ℕ → Type 0
LeavesPort address = (host : List ℕ) × (address ≡ host ++ codes ":0")

-- the server listens at the requested address, or at a port that the system chose
abbrev pub IsHeardAt : List ℕ → List ℕ → Type 0
IsHeardAt address heard = LeavesPort address ⊎ (heard ≡ address)

-- the server reported its address; `address` is the requested address
abbrev pub IsListening : {W : Type 0} → (W → Option (List ℕ)) → List ℕ → W → W → Type 0
IsListening contents address old new =
    (heard : List ℕ) × IsHeardAt address heard × Appends (contents old) (contents new) (listening_line heard)

-- each bus has the configuration that its BUS argument and the options define
abbrev pub AreConfigured : ServeOptions → List BusWord → List Journal → Type 0
AreConfigured o buses ends =
    AllZip (λ bus j. j.config ≡ config_of o.settings (length (names_in bus.names.now))) buses ends

-- the journals that settled buses leave
abbrev pub journals : {L : Type 0} → (L → Journal) → List (Settled L) → List Journal
journals journal settled = map (λ s. journal s.history) settled

-- each journal has the configuration of its bus, and a legal history
pub record AreEnds (benches : List (Bench Perfect Open)) (ends : List Journal) : Type 0 where
  pub each : length ends ≡ length benches
  pub legal : All (λ j. IsLegalEnd j) ends
  pub configured : AllZip (λ b j. j.config ≡ b.config) benches ends

-- a server of these buses reported its address at the start, and the number of entries of each bus at the end
pub record Serves {W : Type 0} (contents : W → Option (List ℕ)) (o : ServeOptions)
    (benches : List (Bench Perfect Open)) (old new : W) : Type 0 where
  pub ends : List Journal
  pub are : AreEnds benches ends
  pub heard : List ℕ
  pub address : IsHeardAt o.address.now heard
  pub wrote : Appends (contents old) (contents new) (listening_line heard ++ end_lines o.buses.items ends)

-- a server reported its address at the start, and the number of entries of each bus at the end; these entries are a
-- legal history for the bus's configuration
pub record IsServed {W : Type 0} (contents : W → Option (List ℕ)) (o : ServeOptions) (old new : W) : Type 0 where
  pub named : All (λ bus. AreNames (names_in bus.names.now)) o.buses.items
  pub ends : List Journal
  pub each : length ends ≡ length o.buses.items
  pub configured : AreConfigured o o.buses.items ends
  pub legal : All (λ j. IsLegalEnd j) ends
  pub heard : List ℕ
  pub address : IsHeardAt o.address.now heard
  pub wrote : Appends (contents old) (contents new) (listening_line heard ++ end_lines o.buses.items ends)
