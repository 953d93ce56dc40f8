use Rattle.std.specs.Prelude.{◌≡◌, ◌⊎◌, ℕ, List, Option, Some, None, Err}
use denote.Ref.{Bor}
use Rattle.std.specs.Io.KnownBytes.{Appends}
use Rattle.can_record.specs.Journal.{Kept}
use Rattle.can_logfile.specs.Log.{joined, log_lines}
use Rattle.can_fault.specs.declared.script.ScriptError.TheVariants as script
use Rattle.can_rules.specs.declared.plan.PlanError.{PlanError}
use Rattle.can_rules.specs.declared.plan.PlanError.TheVariants as plan
use Rattle.can_rules.specs.Plans.{ReadsPlan}
use Rattle.can_rules.specs.RunFaults.{ReadsRunFaults}
use Rattle.can_frame.specs.Names.{AreNames, names_in}
use Rattle.canbusd_options.specs.declared.bus_word.BusWord.{BusWord}
use Rattle.canbusd_options.specs.declared.bus_word.FaultsWord.{FaultsWord}
use Rattle.canbusd_options.specs.BusWords.{first_name_of}
use Rattle.canbusd_io.specs.declared.program_error.ProgramError.{ProgramError}
use Rattle.canbusd_io.specs.declared.program_error.ProgramError.TheVariants as fault

-- The bytes that are written to files, and the errors for names, files and scripts that cannot be read or written (own
-- choice).

-- a text was written to a writer
abbrev pub Took : {W : Type 0} → (W → Option (List ℕ)) → W → W → List ℕ → Type 0
Took contents old new text = Appends (contents old) (contents new) text

-- the text of the log of a record
abbrev pub log_text : List (List ℕ) → Kept → List ℕ
log_text names r = joined (log_lines names r.history)

-- an error in reading, or lack of memory
abbrev pub IsOfReading : ProgramError → Type 0
IsOfReading fault.Read = Unit {0}
IsOfReading fault.NoMemory = Unit {0}
IsOfReading why = ⊥

-- an error for the file with this path: it cannot be opened or read, or memory was refused
abbrev pub IsOfFile : List ℕ → ProgramError → Type 0
IsOfFile path (fault.CannotOpen named) = named.now ≡ path
IsOfFile path why = IsOfReading why

-- an error in writing, or lack of memory
abbrev pub IsOfWriting : ProgramError → Type 0
IsOfWriting fault.Write = Unit {0}
IsOfWriting fault.NoMemory = Unit {0}
IsOfWriting why = ⊥

-- an error for a record's file with this path: it cannot be opened or written, or memory was refused
abbrev pub IsOfRecordFile : List ℕ → ProgramError → Type 0
IsOfRecordFile path (fault.CannotOpen named) = named.now ≡ path
IsOfRecordFile path why = IsOfWriting why

-- an error in the names: a bus may not have these names, or memory was refused although it may have them
abbrev pub IsOfNames : List ℕ → ProgramError → Type 0
IsOfNames text fault.BadNames = AreNames (names_in text) → ⊥
IsOfNames text fault.NoMemory = AreNames (names_in text)
IsOfNames text why = ⊥

-- an error for the log of a bus, whose file has this path: the file cannot be opened, the log cannot be written, or the
-- names are invalid
abbrev pub IsOfLogFile : BusWord → List ℕ → ProgramError → Type 0
IsOfLogFile bus path (fault.CannotOpen named) = named.now ≡ path
IsOfLogFile bus path (fault.Log name lines) = name.now ≡ first_name_of bus.names.now
IsOfLogFile bus path why = IsOfNames bus.names.now why

-- the error that reports a fault of a script
abbrev pub script_fault_of : PlanError → ProgramError
script_fault_of (plan.Script script.NoMemory) = fault.NoMemory
script_fault_of why = fault.Script why

-- the error for a text that spells no faults for a bus with these names
abbrev pub IsOfScript : List (List ℕ) → List ℕ → ProgramError → Type 0
IsOfScript names text why = (error : PlanError) × (why ≡ script_fault_of error) × ReadsPlan names text (Err error)

-- an error for a script: for the file with this path, or for a text that the file may contain
abbrev pub IsOfScriptFile : List ℕ → List (List ℕ) → ProgramError → Type 0
IsOfScriptFile path names why = IsOfFile path why ⊎ ((text : List ℕ) × IsOfScript names text why)

-- an error for the script of a bus; there is no error if no script is named
abbrev pub IsOfPlan : Option (Bor (List ℕ)) → List (List ℕ) → ProgramError → Type 0
IsOfPlan None names why = ⊥
IsOfPlan (Some path) names why = IsOfScriptFile path.now names why

-- the error for a text that spells no run faults for a bus with these names
abbrev pub IsOfRunText : List (List ℕ) → List ℕ → ProgramError → Type 0
IsOfRunText names text why =
    (error : PlanError) × (why ≡ script_fault_of error) × ReadsRunFaults names text (Err error)

-- an error for the file with this path, which should contain a run's faults, or for a text that the file may contain
abbrev pub IsOfRunFile : List ℕ → List (List ℕ) → ProgramError → Type 0
IsOfRunFile path names why = IsOfFile path why ⊎ ((text : List ℕ) × IsOfRunText names text why)

-- an error in the `NAMES@FILE` argument for the faults of a run: in its names, or else in its file
abbrev pub IsOfFaults : FaultsWord → ProgramError → Type 0
IsOfFaults word why =
    IsOfNames word.names.now why
    ⊎ (AreNames (names_in word.names.now) × IsOfRunFile word.path.now (names_in word.names.now) why)
