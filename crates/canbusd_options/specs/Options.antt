use Rattle.std.specs.Prelude.{◌≡◌, ◌↔◌, ℕ, ◌≤◌, map, true, false, List, [], ◌∷◌, ◌++◌, ◌<◌, ◌^◌, ◌==◌}
use Rattle.std.specs.Prelude.{codes, unwrap_or, All, IsTrue, Option, Some, None, slice_get, slice_index, if◌then◌else◌}
use denote.Ref.{Bor}
use Rattle.std.specs.List.{AllZip}
use Rattle.std.specs.Option.{option_flatten, option_map, option_to_list}
use Rattle.std.specs.Path.{path_bytes, path_components, path_names, root_dir, slash}
use Rattle.std.specs.declared.path.Path.{Path}
use Rattle.std.specs.Str.Parse.{IsNumeral, digits_value}
use Rattle.can_attempt.specs.declared.ack_mode.AckMode.{AckMode}
use Rattle.can_attempt.specs.declared.ack_mode.AckMode.TheVariants as ack
use Rattle.can_wire.specs.Times.{AreBitRates}
use Rattle.can_wire.specs.Timings.{BusTiming, timing_of}
use Rattle.clap.specs.declared.parser.matches.ArgMatches.{ArgMatches}
use Rattle.clap.specs.Words.{Row, all_of, first_of, found_of, one_of, rows_of}
use Rattle.canbusd_options.specs.declared.bit_rates.GivenRates.{GivenRates}
use Rattle.canbusd_options.specs.declared.bus_options.BusSettings.{BusSettings}
use Rattle.canbusd_options.specs.declared.bus_word.BusWord.{BusWord}
use Rattle.canbusd_options.specs.declared.bus_word.FaultsWord.{FaultsWord}
use Rattle.canbusd_options.specs.declared.audit_options.AuditOptions.{AuditOptions}
use Rattle.canbusd_options.specs.declared.audit_options.AuditOutput.{AuditOutput}
use Rattle.canbusd_options.specs.declared.audit_options.AuditOutput.TheVariants as output
use Rattle.canbusd_options.specs.declared.bench_options.BenchOptions.{BenchOptions}
use Rattle.canbusd_options.specs.declared.recording.Recording.{Recording}
use Rattle.canbusd_options.specs.declared.recording.Recording.TheVariants as recording
use Rattle.canbusd_options.specs.declared.serve_options.ServeOptions.{ServeOptions}
use Rattle.canbusd_options.specs.BusWords.{names_part, path_of, script_part}
use Rattle.canbusd_options.specs.RateWords.{GoWithBuses, number_for, number_in_word}

-- The options that the values of a command line's arguments mean. A row has the values of one argument: the given
-- values, or the default (own choice).

-- the rows that a parse found
abbrev pub rows_in : ArgMatches → List Row
rows_in m = rows_of (found_of m)

-- the given text of the option with this name, or its default
abbrev pub value_of : List Row → List ℕ → List ℕ
value_of rows id = unwrap_or (first_of id rows) []

-- the given text of the option with this name, or else `text`
abbrev pub given_or : List ℕ → List Row → List ℕ → List ℕ
given_or text rows id = unwrap_or (first_of id rows) text

-- the given text of the option with this name in a parse, or its default
abbrev pub given_in : ArgMatches → List ℕ → List ℕ
given_in m id = value_of (rows_in m) id

-- the text has only decimal digits and writes this number, which is below 2^32
abbrev pub IsNumberOfText : ℕ → List ℕ → Type 0
IsNumberOfText n text = IsNumeral 10 text × (n ≡ digits_value 10 text) × (n < 2 ^ 32)

-- the text has only decimal digits and writes a number below 2^32
abbrev pub IsNumber : List ℕ → Type 0
IsNumber text = (n : ℕ) × IsNumberOfText n text

-- the text writes a number from `least` to `most`
abbrev pub IsNumberWithin : ℕ → ℕ → List ℕ → Type 0
IsNumberWithin least most text = (n : ℕ) × IsNumberOfText n text × (least ≤ n) × (n ≤ most)

-- the word for an acknowledge mode
abbrev pub mode_text : AckMode → List ℕ
mode_text ack.Always = codes "always"
mode_text ack.Peers = codes "peers"

-- the text is the word for an acknowledge mode
abbrev pub IsMode : List ℕ → Type 0
IsMode text = (mode : AckMode) × (text ≡ mode_text mode)

-- the rows give these settings of a bus; the limit is `limit_else` if the rows give no limit
pub record AreSettings (rows : List Row) (limit_else : List ℕ) (s : BusSettings) : Type 0 where
  pub ack : value_of rows (codes "ack") ≡ mode_text s.ack
  pub reporting : one_of (codes "report") rows ≡ Some (codes "true") → s.is_reporting ≡ true
  pub silent : one_of (codes "report") rows ≡ Some (codes "false") → s.is_reporting ≡ false
  pub tx_capacity : IsNumberOfText s.tx_capacity (value_of rows (codes "txqueue"))
  pub rx_capacity : IsNumberOfText s.rx_capacity (value_of rows (codes "rxqueue"))
  pub limit : IsNumberOfText s.limit (given_or limit_else rows (codes "limit"))
  pub auto_restart : IsNumberOfText s.auto_restart (value_of rows (codes "auto-restart"))

-- the rows give valid settings of a bus; the limit is `limit_else` if the rows give no limit
abbrev pub GiveSettings : List Row → List ℕ → Type 0
GiveSettings rows limit_else = (s : BusSettings) × AreSettings rows limit_else s

-- the default limit of a run that keeps its record
abbrev pub usual_limit : List ℕ
usual_limit = codes "1000000"

-- the components of a path
abbrev pub components_of : Path → List (List ℕ)
components_of path = path_components (path_bytes path)

-- the steps of a path: the root if the path begins with a slash, then the names between slashes, without `.`
abbrev pub path_steps : List ℕ → List (List ℕ)
path_steps path = (if slice_index path 0 == slash then root_dir ∷ [] else []) ++ path_names path

-- both paths are given, and they have the same steps
abbrev pub AreOneFile : Option (List ℕ) → Option (List ℕ) → Type 0
AreOneFile (Some path) (Some other) = path_steps path ≡ path_steps other
AreOneFile _ _ = ⊥

-- the names and the script of the bus are those of its BUS argument
abbrev pub IsBusWord : BusWord → List ℕ → Type 0
IsBusWord bus word = (bus.names.now ≡ names_part word) × (path_of bus.script ≡ script_part word)

-- the names and the script of each bus are those of its BUS argument
abbrev pub AreBusWords : List BusWord → List (List ℕ) → Type 0
AreBusWords buses words =
    (map (λ bus. bus.names.now) buses ≡ map names_part words)
    × (map (λ bus. path_of bus.script) buses ≡ map script_part words)

-- the text of an option, if the option is given
abbrev pub word_in : Option (Bor (List ℕ)) → Option (List ℕ)
word_in text = option_map (λ t. t.now) text

-- the text writes this number, or both are absent
abbrev pub IsNumberIf : Option ℕ → Option (List ℕ) → Type 0
IsNumberIf None None = Unit {0}
IsNumberIf (Some n) (Some text) = IsNumberOfText n text
IsNumberIf _ _ = ⊥

-- the texts write these bit rates of a bus: the nominal bit rate, and the data bit rate of FD frames if it is given
pub record IsTimingOf (bitrate : List ℕ) (dbitrate : Option (List ℕ)) (t : BusTiming) : Type 0 where
  pub nominal : ℕ
  pub fast : Option ℕ
  pub number : IsNumberOfText nominal bitrate
  pub data_number : IsNumberIf fast dbitrate
  pub allowed : AreBitRates (timing_of nominal fast).rates
  pub timing : t ≡ timing_of nominal fast

-- the texts write valid bit rates
abbrev pub GiveTimingOf : List ℕ → Option (List ℕ) → Type 0
GiveTimingOf bitrate dbitrate = (t : BusTiming) × IsTimingOf bitrate dbitrate t

-- the bus has the bit rates that the texts write, or none if there are no texts; a data bit rate needs a nominal one
abbrev pub HasTimingOf : Option (List ℕ) → Option (List ℕ) → Option BusTiming → Type 0
HasTimingOf None None None = Unit {0}
HasTimingOf (Some bitrate) dbitrate (Some t) = IsTimingOf bitrate dbitrate t
HasTimingOf _ _ _ = ⊥

-- all given texts of an option that may be given several times
abbrev pub words_given : List Row → List ℕ → List (List ℕ)
words_given rows id = unwrap_or (all_of id rows) []

-- the bit rate options have the words that the rows give them
pub record AreRateWords (rows : List Row) (rates : GivenRates) : Type 0 where
  pub bitrates : map (λ word. word.now) rates.bitrate.words.now ≡ words_given rows (codes "bitrate")
  pub dbitrates : map (λ word. word.now) rates.dbitrate.words.now ≡ words_given rows (codes "dbitrate")

-- the bit rate words of the rows fit the buses of these BUS arguments
pub record GoTogether (rows : List Row) (buses : List (List ℕ)) : Type 0 where
  pub bitrates : GoWithBuses buses (words_given rows (codes "bitrate"))
  pub dbitrates : GoWithBuses buses (words_given rows (codes "dbitrate"))

-- each word gives a bit rate from 5,000 to `most`
abbrev pub AreRatesWithin : ℕ → List (List ℕ) → Type 0
AreRatesWithin most words = All (λ word. IsNumberWithin 5000 most (number_in_word word)) words

-- all words give bit rates within their limits, even the words that are for no bus
pub record AreNumbers (bitrates dbitrates : List (List ℕ)) : Type 0 where
  pub nominal : AreRatesWithin 1000000 bitrates
  pub fast : AreRatesWithin 20000000 dbitrates

-- all words of these options give bit rates within their limits
abbrev pub AreNumbersOf : GivenRates → Type 0
AreNumbersOf rates =
    AreNumbers (map (λ word. word.now) rates.bitrate.words.now) (map (λ word. word.now) rates.dbitrate.words.now)

-- the bus has the bit rates that the words give it, or none if they give none
abbrev pub HasRates : (bitrates dbitrates : List (List ℕ)) → (bus : Option (List ℕ)) → Option BusTiming → Type 0
HasRates bitrates dbitrates bus timing = HasTimingOf (number_for bus bitrates) (number_for bus dbitrates) timing

-- the bus has the bit rates that the options give it, or none if they give none
abbrev pub HasRatesOf : GivenRates → (bus : Option (List ℕ)) → Option BusTiming → Type 0
HasRatesOf rates bus timing =
    HasRates
    (map (λ word. word.now) rates.bitrate.words.now)
    (map (λ word. word.now) rates.dbitrate.words.now)
    bus timing

-- the bus of this BUS argument has the bit rates that the options give it, or none if they give none
abbrev pub HasRatesFor : GivenRates → (bus : List ℕ) → Option BusTiming → Type 0
HasRatesFor rates bus timing = HasRatesOf rates (Some (names_part bus)) timing

-- the options give this bus valid bit rates, or none
abbrev pub GiveRatesOf : GivenRates → (bus : Option (List ℕ)) → Type 0
GiveRatesOf rates bus = (timing : Option BusTiming) × HasRatesOf rates bus timing

-- the bit rate words of the rows are within their limits and fit the buses of these BUS arguments
pub record AreForBuses (rows : List Row) (buses : List (List ℕ)) : Type 0 where
  pub together : GoTogether rows buses
  pub numbers : AreNumbers (words_given rows (codes "bitrate")) (words_given rows (codes "dbitrate"))

-- the bus has the bit rates that the rows give it, or none if they give none
abbrev pub IsBusTimed : List Row → (bus : Option (List ℕ)) → Option BusTiming → Type 0
IsBusTimed rows bus timing =
    HasRates (words_given rows (codes "bitrate")) (words_given rows (codes "dbitrate")) bus timing

-- the bus has the bit rates that the rows give it, if any, and all bit rate words fit the buses of these BUS arguments
abbrev pub IsTimed : List Row → (buses : List (List ℕ)) → (bus : Option (List ℕ)) → Option BusTiming → Type 0
IsTimed rows buses bus timing = AreForBuses rows buses × IsBusTimed rows bus timing

-- the rows give this bus valid bit rates, or none
abbrev pub GiveTiming : List Row → (buses : List (List ℕ)) → (bus : Option (List ℕ)) → Type 0
GiveTiming rows buses bus = (timing : Option BusTiming) × IsTimed rows buses bus timing

-- the rows give these options of `bench`
pub record AreBenchOptions (rows : List Row) (o : BenchOptions) : Type 0 where
  pub settings : AreSettings rows usual_limit o.settings
  pub bus : IsBusWord o.bus (value_of rows (codes "BUS"))
  pub timed : IsTimed rows (value_of rows (codes "BUS") ∷ []) (Some o.bus.names.now) o.timing
  pub kept : path_of o.record ≡ first_of (codes "record") rows
  pub logged : path_of o.log ≡ first_of (codes "log") rows
  pub apart : ¬ (AreOneFile (first_of (codes "record") rows) (first_of (codes "log") rows))
  pub strict : one_of (codes "strict") rows ≡ Some (codes "true") → o.is_strict ≡ true
  pub lenient : one_of (codes "strict") rows ≡ Some (codes "false") → o.is_strict ≡ false
  pub showing : one_of (codes "show-faults") rows ≡ Some (codes "true") → o.shows_faults ≡ true
  pub hiding : one_of (codes "show-faults") rows ≡ Some (codes "false") → o.shows_faults ≡ false

-- the rows give valid options of `bench`
abbrev pub GiveBenchOptions : List Row → Type 0
GiveBenchOptions rows = (o : BenchOptions) × AreBenchOptions rows o

-- the BUS arguments of a server
abbrev pub buses_given : List Row → List (List ℕ)
buses_given rows = words_given rows (codes "BUS")

-- each bus of these BUS arguments has the bit rates that the rows give it, or none if they give none
pub record AreTimed (rows : List Row) (buses : List (List ℕ)) (timings : List (Option BusTiming)) : Type 0 where
  pub taken : AreForBuses rows buses
  pub each : AllZip (λ bus timing. IsBusTimed rows (Some (names_part bus)) timing) buses timings

-- the rows give each of these buses valid bit rates, or none
abbrev pub GiveTimings : List Row → (buses : List (List ℕ)) → Type 0
GiveTimings rows buses = (timings : List (Option BusTiming)) × AreTimed rows buses timings

-- the bit rates of the bus at this place, if the bus exists and has bit rates
abbrev pub timing_at : List (Option BusTiming) → ℕ → Option BusTiming
timing_at timings place = option_flatten (slice_get timings place)

-- the word that says when records are written
abbrev pub recording_text : Recording → List ℕ
recording_text recording.AtEnd = codes "end"
recording_text recording.Live = codes "live"
recording_text recording.Never = codes "none"

-- the text is a word that says when records are written
abbrev pub IsRecording : List ℕ → Type 0
IsRecording text = (r : Recording) × (text ≡ recording_text r)

-- the default limit of a server's buses; for long runs it is the highest limit
abbrev pub server_limit : Recording → List ℕ
server_limit recording.AtEnd = usual_limit
server_limit recording.Live = codes "4294967294"
server_limit recording.Never = codes "4294967294"

-- the maximum number of sessions of a server; if records are written at the end, passes are kept until then
abbrev pub most_sessions : Recording → ℕ
most_sessions recording.AtEnd = 4000
most_sessions recording.Live = 4294967295
most_sessions recording.Never = 4294967295

-- the default number of sessions of a server: the maximum
abbrev pub usual_sessions : Recording → List ℕ
usual_sessions recording.AtEnd = codes "4000"
usual_sessions recording.Live = codes "4294967295"
usual_sessions recording.Never = codes "4294967295"

-- the options fit the time at which records are written: --flush and --sync are only for files that are written live, a
-- long run has no --limit, and live records need a folder
abbrev pub GoWith : Recording → List Row → Type 0
GoWith recording.AtEnd rows = (first_of (codes "flush") rows ≡ None) × ¬ (value_of rows (codes "sync") ≡ codes "true")
GoWith recording.Live rows = (first_of (codes "limit") rows ≡ None) × ¬ (first_of (codes "out") rows ≡ None)
GoWith recording.Never rows = first_of (codes "limit") rows ≡ None

-- the rows say when records are written, and the other options fit that time
abbrev pub CanRecord : List Row → Type 0
CanRecord rows = (r : Recording) × (value_of rows (codes "record") ≡ recording_text r) × GoWith r rows

-- the rows give these options of `serve`
pub record AreServeOptions (rows : List Row) (o : ServeOptions) : Type 0 where
  pub recording : value_of rows (codes "record") ≡ recording_text o.recording
  pub together : GoWith o.recording rows
  pub settings : AreSettings rows (server_limit o.recording) o.settings
  pub timed : AreTimed rows (buses_given rows) o.timings.items
  pub flush : IsNumberOfText o.flush_ms (given_or (codes "100") rows (codes "flush"))
  pub soon : o.flush_ms ≤ 60000
  pub synced : IsTrue o.is_synced ↔ (value_of rows (codes "sync") ≡ codes "true")
  pub buses : AreBusWords o.buses.items (buses_given rows)
  pub address : o.address.now ≡ value_of rows (codes "listen")
  pub sessions : IsNumberOfText o.sessions (given_or (usual_sessions o.recording) rows (codes "sessions"))
  pub some : 1 ≤ o.sessions
  pub few : o.sessions ≤ most_sessions o.recording
  pub pace : IsNumberOfText o.pace_ms (value_of rows (codes "pace"))
  pub short : o.pace_ms ≤ 60000
  pub write : IsNumberOfText o.write_bytes (value_of rows (codes "write"))
  pub one_frame : 256 ≤ o.write_bytes
  pub many_frames : o.write_bytes ≤ 65536
  pub folder : path_of o.folder ≡ first_of (codes "out") rows
  pub until_eof : one_of (codes "until-eof") rows ≡ Some (codes "true") → o.is_until_eof ≡ true
  pub on_and_on : one_of (codes "until-eof") rows ≡ Some (codes "false") → o.is_until_eof ≡ false
  pub verbose : one_of (codes "verbose") rows ≡ Some (codes "true") → o.is_verbose ≡ true
  pub quiet : one_of (codes "verbose") rows ≡ Some (codes "false") → o.is_verbose ≡ false

-- the rows give valid options of `serve`
abbrev pub GiveServeOptions : List Row → Type 0
GiveServeOptions rows = (o : ServeOptions) × AreServeOptions rows o

-- the FILE arguments of an audit
abbrev pub files_given : List Row → List (List ℕ)
files_given rows = words_given rows (codes "FILE")

-- the word gives the names and the path of a run's faults; it has both
abbrev pub IsFaultsWord : FaultsWord → List ℕ → Type 0
IsFaultsWord faults word = (faults.names.now ≡ names_part word) × (Some faults.path.now ≡ script_part word)

-- the word gives these faults of a run, or both are absent
abbrev pub HasFaultsOf : Option (List ℕ) → Option FaultsWord → Type 0
HasFaultsOf None None = Unit {0}
HasFaultsOf (Some word) (Some faults) = IsFaultsWord faults word
HasFaultsOf _ _ = ⊥

-- the rows give these faults of a run, or none if they give no faults
abbrev pub AreFaults : List Row → Option FaultsWord → Type 0
AreFaults rows faults = HasFaultsOf (first_of (codes "faults") rows) faults

-- the rows give valid faults of a run, or none
abbrev pub GiveFaults : List Row → Type 0
GiveFaults rows = (faults : Option FaultsWord) × AreFaults rows faults

-- the bus of an audit has the bit rates that the rows give it, or none if they give none; the names of the bus are
-- those of --faults, if --faults is given
abbrev pub IsAuditTimed : List Row → Option BusTiming → Type 0
IsAuditTimed rows timing =
    IsTimed rows
    (option_to_list (first_of (codes "faults") rows))
    (option_map names_part (first_of (codes "faults") rows))
    timing

-- the rows give the bus of an audit valid bit rates, or none
abbrev pub GiveAuditTiming : List Row → Type 0
GiveAuditTiming rows = (timing : Option BusTiming) × IsAuditTimed rows timing

-- an audit writes the output that the rows ask for. With --events it writes what the entries brought about, by the bit
-- rates and the faults that the rows give, if any. Without --events it writes a count, and the rows give neither bit
-- rates nor faults
abbrev pub IsOutput : List Row → AuditOutput → Type 0
IsOutput rows output.Count =
    ¬ (value_of rows (codes "events") ≡ codes "true") × IsAuditTimed rows None × AreFaults rows None
IsOutput rows (output.Events asked) =
    (value_of rows (codes "events") ≡ codes "true") × IsAuditTimed rows asked.timing × AreFaults rows asked.faults

-- the rows give a valid output of an audit
abbrev pub GiveOutput : List Row → Type 0
GiveOutput rows = (o : AuditOutput) × IsOutput rows o

-- the rows give these options of `audit`
pub record AreAuditOptions (rows : List Row) (o : AuditOptions) : Type 0 where
  pub files : map (λ file. file.now) o.files.items ≡ files_given rows
  pub cut : one_of (codes "cut") rows ≡ Some (codes "true") → o.is_cut ≡ true
  pub whole : one_of (codes "cut") rows ≡ Some (codes "false") → o.is_cut ≡ false
  pub output : IsOutput rows o.output

-- the rows give valid options of `audit`
abbrev pub GiveAuditOptions : List Row → Type 0
GiveAuditOptions rows = (o : AuditOptions) × AreAuditOptions rows o
