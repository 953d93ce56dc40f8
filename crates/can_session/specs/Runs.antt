use Rattle.std.specs.Prelude.{◌≡◌, ◌⊎◌, ℕ, ◌+◌, ◌<◌, ◌≤◌, Bool, MatchBool, List, [], ◌∷◌}
use Rattle.std.specs.Prelude.{◌++◌, length, replicate, Option, Some, None, Result, Ok, Err}
use Rattle.std.specs.List.{All}
use Rattle.std.specs.Option.{option_map}
use Rattle.std.specs.Io.KnownBytes.{Appends, Keeps}
use Rattle.can_fault.specs.Sources.{VerdictMap}
use Rattle.can_rules.specs.Plans.{PlanSeen, no_plan}
use Rattle.can_event.specs.declared.bus_config.BusConfig.{BusConfig}
use Rattle.can_record.specs.Journal.{Kept}
use Rattle.can_event.specs.Events.{IsConfig, max_rx_capacity}
use Rattle.can_wire.specs.Timings.{BusTiming}
use Rattle.can_session.specs.declared.lines.InputFault.{InputFault}
use Rattle.can_session.specs.declared.lines.InputFault.TheVariants as line
use Rattle.can_session.specs.declared.bench_run.BenchFault.{BenchFault}
use Rattle.can_session.specs.declared.bench_run.BenchFault.TheVariants.{BadConfig, BadLine, TooLong}
use Rattle.can_session.specs.declared.bench_run.BenchFault.TheVariants.{Read, Write, NoMemory}
use Rattle.can_session.specs.Lines.{Input, IsInputLine, IsOver, FindsEnd, TakesInputLine, Stops, StopsAfter}
use Rattle.can_session.specs.Lines.{lines_of_text, spelled}
use Rattle.can_session.specs.declared.ignored_input.IgnoredInput.{IgnoredInput}
use Rattle.can_session.specs.IgnoredInput.{none_ignored}
use Rattle.can_session.specs.Orders.{order_of}
use Rattle.can_session.specs.Wires.{nothing_yet}
use Rattle.can_session.specs.Benches.{BenchState, AreCarriedOut, IsCarriedOut, IsRefused, IsLeftBy}

-- Running the bench over an input (own choice).

-- the values from which a bench may be created: a bus within its limits, a name for each interface, and a receive queue
-- capacity within its limits
pub record IsBench (names : List (List ℕ)) (config : BusConfig) (capacity : ℕ) : Type 0 where
  pub bus : IsConfig config
  pub named : length names ≡ config.ifaces
  pub some_items : 1 ≤ capacity
  pub few_items : capacity ≤ max_rx_capacity

-- a bench before its first line, with a fault plan, and with bit rates if its bus has them; the flag says whether the
-- lines of attempts show faults
abbrev pub at_start_with : Bool → PlanSeen → Option BusTiming → List (List ℕ) → BusConfig → ℕ → BenchState
at_start_with shows_faults plan timing names config capacity = record {
  capacity = capacity;
  shows_faults = shows_faults;
  bus = record {
    names = names;
    journal = record { config = config; history = [] };
    plan = plan;
    schedule = option_map nothing_yet timing;
  };
  sessions = replicate 64 None;
  moment = 0;
  ignored = none_ignored;
}

-- a bench before its first line, without a fault plan
abbrev pub new_bench : Bool → Option BusTiming → List (List ℕ) → BusConfig → ℕ → BenchState
new_bench shows_faults timing names config capacity = at_start_with shows_faults no_plan timing names config capacity

-- If the bytes of the reader are not known (`None`), the lines are not specified.

-- these are all the lines of the input, which has at most 16,777,216 bytes
abbrev pub AreAll : Option (List ℕ) → List (List ℕ) → Type 0
AreAll None lines = Unit {0}
AreAll (Some text) lines = (lines ≡ lines_of_text text) × (length text ≤ 16777216)

-- these are the first lines of the input
abbrev pub AreFirst : Option (List ℕ) → List (List ℕ) → Type 0
AreFirst None lines = Unit {0}
AreFirst (Some text) lines = (more : List (List ℕ)) × (lines_of_text text ≡ lines ++ more)

-- these lines and then this line are the first lines of the input; the LF of the last line, or the end of the input, is
-- within the size limit
abbrev pub IsNextOfInput : Option (List ℕ) → List (List ℕ) → List ℕ → Type 0
IsNextOfInput None lines line = Unit {0}
IsNextOfInput (Some text) lines line =
    (more : List (List ℕ))
    × (lines_of_text text ≡ lines ++ line ∷ more)
    × ((length (spelled lines) + length line < 16777216) ⊎ (length text ≤ 16777216))

-- the line after these lines of the input has at most 4,096 bytes, and the bench refuses it
pub record ComesToRefused (input : Option (List ℕ)) (lines : List (List ℕ)) (now : Input)
    (b : BenchState) : Type 0 where
  pub next : IsNextOfInput input lines now.line
  pub line : IsInputLine now.line
  pub refused : IsRefused (order_of now.line) b

-- the input returned these lines before this fault
abbrev pub ComeBeforeStop : InputFault → Option (List ℕ) → List (List ℕ) → Input → Type 0
ComeBeforeStop fault None lines now = now.fault ≡ Some fault
ComeBeforeStop fault (Some text) lines now = (now.fault ≡ Some fault) × StopsAfter fault text lines now

-- the bench refuses the line after these lines of the input, or that line is too long
abbrev pub ComeBeforeBad : Option (List ℕ) → List (List ℕ) → Input → BenchState → Type 0
ComeBeforeBad input lines now b = ComesToRefused input lines now b ⊎ ComeBeforeStop line.LineTooLong input lines now

-- the bench carries out these lines of at most 4,096 bytes, and the writer accepts all output
pub record Ran {W : Type 0} (contents : W → Option (List ℕ)) (verdicts : VerdictMap) (lines : List (List ℕ))
    (b : BenchState) (out : W) (after : BenchState) (new : W) : Type 0 where
  pub text : List ℕ
  pub short : All IsInputLine lines
  pub carried : AreCarriedOut verdicts lines b text after
  pub wrote : Appends (contents out) (contents new) text

-- how a run over an input ends and which lines it carried out: all lines, or the lines before a fault. The output
-- before a fault of the writer is not specified.
abbrev pub EndsRun : {A W : Type 0} → (A → BenchState → Type 0) → (W → Option (List ℕ)) → VerdictMap → Option (List ℕ)
    → BenchState → W → Result A BenchFault → Input → W → Type 0
EndsRun {A} {W} leaves contents verdicts input b out (Ok a) now new =
    (lines : List (List ℕ)) × (after : BenchState)
    × AreAll input lines
    × IsOver now
    × (now.fault ≡ None)
    × Ran contents verdicts lines b out after new
    × leaves a after
EndsRun {A} {W} leaves contents verdicts input b out (Err (BadLine n)) now new =
    (lines : List (List ℕ)) × (after : BenchState)
    × ComeBeforeBad input lines now after
    × Ran contents verdicts lines b out after new
    × (n ≡ length lines + 1)
EndsRun {A} {W} leaves contents verdicts input b out (Err TooLong) now new =
    (lines : List (List ℕ)) × (after : BenchState) × ComeBeforeStop line.TooLong input lines now
    × Ran contents verdicts lines b out after new
EndsRun {A} {W} leaves contents verdicts input b out (Err Read) now new =
    (lines : List (List ℕ)) × (after : BenchState) × ComeBeforeStop line.Read input lines now
    × Ran contents verdicts lines b out after new
EndsRun {A} {W} leaves contents verdicts input b out (Err NoMemory) now new =
    (lines : List (List ℕ)) × (after : BenchState) × AreFirst input lines × Ran contents verdicts lines b out after new
EndsRun {A} {W} leaves contents verdicts input b out (Err Write) now new = Unit {0}
EndsRun {A} {W} leaves contents verdicts input b out (Err BadConfig) now new = ⊥

-- the bench after a fault at a line, compared with the bench before that line; not specified for faults of the writer
-- or a lack of memory
abbrev pub LeavesAt : BenchFault → BenchState → BenchState → Type 0
LeavesAt (BadLine n) b left = IsLeftBy b left
LeavesAt TooLong b left = left ≡ b
LeavesAt Read b left = left ≡ b
LeavesAt _ b left = Unit {0}

-- how a run over an input ends, and the final state of its bench
abbrev pub EndsLeaving : {W : Type 0} → (W → Option (List ℕ)) → VerdictMap → Option (List ℕ) → BenchState → W
    → Result (Unit {0}) BenchFault → Input → W → BenchState → Type 0
EndsLeaving {W} contents verdicts input b out (Ok done) now new left =
    EndsRun (λ (_ : Unit {0}) after. after ≡ left) contents verdicts input b out (Ok done) now new
EndsLeaving {W} contents verdicts input b out (Err (BadLine n)) now new left =
    (lines : List (List ℕ)) × (after : BenchState)
    × ComeBeforeBad input lines now after
    × Ran contents verdicts lines b out after new
    × (n ≡ length lines + 1)
    × LeavesAt (BadLine n) after left
EndsLeaving {W} contents verdicts input b out (Err TooLong) now new left =
    (lines : List (List ℕ)) × (after : BenchState) × ComeBeforeStop line.TooLong input lines now
    × Ran contents verdicts lines b out after new
    × LeavesAt TooLong after left
EndsLeaving {W} contents verdicts input b out (Err Read) now new left =
    (lines : List (List ℕ)) × (after : BenchState) × ComeBeforeStop line.Read input lines now
    × Ran contents verdicts lines b out after new
    × LeavesAt Read after left
EndsLeaving {W} contents verdicts input b out (Err fault) now new left =
    EndsRun (λ (_ : Unit {0}) after. after ≡ left) contents verdicts input b out (Err fault) now new

-- the bench carries out the lines of a text and appends its output to these bytes
abbrev pub TakesLines : VerdictMap → List ℕ → BenchState → List ℕ → Result (Unit {0}) BenchFault → BenchState
    → List ℕ → Type 0
TakesLines verdicts text b old outcome left new =
    (now : Input) × EndsLeaving (λ (bytes : List ℕ). Some bytes) verdicts (Some text) b old outcome now new left

-- `r` is the record of the bench's bus
pub record IsRecordOfBench (r : Kept) (b : BenchState) : Type 0 where
  pub config : r.config ≡ b.bus.journal.config
  pub history : r.history ≡ b.bus.journal.history

-- how a run that returns a record ends, at any position in its input
abbrev pub EndsOver : {W : Type 0} → (W → Option (List ℕ)) → VerdictMap → Option (List ℕ) → BenchState → W
    → Result Kept BenchFault → W → Type 0
EndsOver contents verdicts input b out result new =
    (now : Input) × EndsRun IsRecordOfBench contents verdicts input b out result now new

-- after a run over all lines of an input, `ignored` says which sessions were fed bytes outside messages
abbrev pub NotesFed :
    {W : Type 0} → (W → Option (List ℕ)) → VerdictMap → Option (List ℕ) → BenchState → W → IgnoredInput → W → Type 0
NotesFed contents verdicts input b out ignored new =
    (now : Input)
    × EndsRun (λ (_ : Unit {0}) after. ignored ≡ after.ignored) contents verdicts input b out (Ok tt) now new

-- the faults because of which a bench cannot be created
abbrev pub IsStartFault : BenchFault → Type 0
IsStartFault fault = (fault ≡ BadConfig) ⊎ (fault ≡ NoMemory)

-- the bench carries out the next line, and the writer accepts its output; or no line remains, and nothing changes
abbrev pub StepsOn : {W : Type 0} → (W → Option (List ℕ)) → VerdictMap → Bool → Input → Input → BenchState
    → BenchState → W → W → Type 0
StepsOn {W} contents verdicts more old new b after out wrote =
    MatchBool more
    (TakesInputLine old new × (text : List ℕ)
    × IsCarriedOut verdicts new.line b text after
    × Appends (contents out) (contents wrote) text)
    (FindsEnd old new × (after ≡ b) × Keeps (contents out) (contents wrote))

-- the bench fault that reports an input fault at the line with this number
abbrev pub input_fault_of : ℕ → InputFault → BenchFault
input_fault_of number line.LineTooLong = BadLine number
input_fault_of number line.TooLong = TooLong
input_fault_of number line.Read = Read

-- how a run stops at the next line, which has this number
abbrev pub EndsAt : ℕ → BenchFault → Input → Input → BenchState → Type 0
EndsAt number (BadLine n) old new b =
    (n ≡ number) × ((TakesInputLine old new × IsRefused (order_of new.line) b) ⊎ Stops line.LineTooLong old new)
EndsAt number TooLong old new b = Stops line.TooLong old new
EndsAt number Read old new b = Stops line.Read old new
EndsAt number NoMemory old new b = TakesInputLine old new
EndsAt number Write old new b = Unit {0}
EndsAt number BadConfig old new b = ⊥
