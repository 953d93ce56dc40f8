use Rattle.std.specs.Prelude.{◌≡◌, ◌⊎◌, ℕ, Bool, not, ◌==◌, MatchBool, List, [], length, Option, Result, Ok, Err}
use Rattle.std.specs.Prelude.{IsUtf8}
use Rattle.can_frame.specs.Names.{names_in, AreNames}
use Rattle.can_fault.specs.Sources.{no_verdicts}
use Rattle.can_fault.specs.declared.script.ScriptError.TheVariants as script
use Rattle.can_rules.specs.declared.plan.PlanError.{PlanError}
use Rattle.can_rules.specs.declared.plan.PlanError.TheVariants as plan
use Rattle.can_rules.specs.Plans.{PlanSeen, ReadsPlan}
use Rattle.can_event.specs.declared.bus_config.BusConfig.{BusConfig}
use Rattle.can_record_text.specs.Texts.{text_of}
use Rattle.can_logfile.specs.Log.{joined, log_lines}
use Rattle.can_bus.specs.Lean.{record_of}
use Rattle.can_wire.specs.Timings.{BusTiming}
use Rattle.can_session.specs.declared.bench_run.BenchFault.{BenchFault}
use Rattle.can_session.specs.declared.bench_run.BenchFault.TheVariants as fault
use Rattle.can_session.specs.Benches.{BenchState}
use Rattle.can_session.specs.Runs.{IsBench, TakesLines, at_start_with}
use Rattle.canbusd_c.specs.Calls.{IsFront}
use Rattle.canbusd_c.specs.Making.{HasRates, IsConfigIn, IsNoConfig, IsNoNames, IsNoTiming, timing_of_numbers}
use Rattle.canbusd_c.specs.declared.shapes.CConfig.{CConfig}

-- A bench inside the calling process. It carries out lines as a bench of can_session does (own choice).

-- a bench, and the output of the lines of the last call
pub record KeptBench : Type 0 where
  pub bench : BenchState
  pub output : List ℕ

-- a bench before its first line
abbrev pub kept_at_start : Bool → PlanSeen → Option BusTiming → List (List ℕ) → BusConfig → ℕ → KeptBench
kept_at_start shows plan timing names config capacity =
    record { bench = at_start_with shows plan timing names config capacity; output = [] }

-- the lines are carried out, and their output is stored
abbrev pub KeepsLines : List ℕ → KeptBench → Result (Unit {0}) BenchFault → KeptBench → Type 0
KeepsLines lines old outcome new = TakesLines no_verdicts lines old.bench [] outcome new.bench new.output

-- the code of a fault
abbrev pub fault_code : BenchFault → ℕ
fault_code (fault.BadLine n) = 25
fault_code fault.BadConfig = 21
fault_code fault.TooLong = 27
fault_code fault.Read = 27
fault_code fault.Write = 10
fault_code fault.NoMemory = 10

-- the line number of a fault, or `before` if the fault has no line
abbrev pub fault_line : ℕ → BenchFault → ℕ
fault_line before (fault.BadLine n) = n
fault_line before _ = before

-- the result of the lines: the code of a fault and its line number, or code 0
abbrev pub IsLineTold : Result (Unit {0}) BenchFault → ℕ → ℕ → ℕ → Type 0
IsLineTold (Ok done) before code line = (code ≡ 0) × (line ≡ before)
IsLineTold (Err why) before code line = (code ≡ fault_code why) × (line ≡ fault_line before why)

-- the beginning of the text is written, as much as fits into the buffer, and its full length is also written
abbrev pub IsTextOut : List ℕ → List ℕ → ℕ → List ℕ → Type 0
IsTextOut text before len after = (len ≡ length text) × IsFront text before after

-- the lines are carried out, and their output is written
abbrev pub IsTakeCall : List ℕ → KeptBench → List ℕ → ℕ → ℕ → ℕ → ℕ → List ℕ → KeptBench → Type 0
IsTakeCall lines old before line_before code len line after new =
    (outcome : Result (Unit {0}) BenchFault)
    × KeepsLines lines old outcome new
    × IsLineTold outcome line_before code line
    × IsTextOut new.output before len after

-- the record and the log of a bench so far
abbrev pub bench_record : KeptBench → List ℕ
bench_record b = text_of (record_of b.bench.bus.journal.config b.bench.bus.journal.history)

abbrev pub bench_log : KeptBench → List ℕ
bench_log b = joined (log_lines b.bench.bus.names b.bench.bus.journal.history)

-- the text and its length are written, or memory was refused
abbrev pub IsTextCall : List ℕ → List ℕ → ℕ → ℕ → List ℕ → Type 0
IsTextCall text before code len after = MatchBool (code == 0) (IsTextOut text before len after) (code ≡ 10)

-- the code for the reason why a text spells no faults, and the number of the wrong line
abbrev pub plan_code : PlanError → ℕ
plan_code (plan.Script (script.BadLine n)) = 25
plan_code (plan.Script (script.UnknownInterface n)) = 2
plan_code (plan.Script (script.RepeatedAttempt n)) = 26
plan_code (plan.Script script.NoMemory) = 10
plan_code (plan.TooManyRules n) = 19

abbrev pub plan_line : ℕ → PlanError → ℕ
plan_line before (plan.Script (script.BadLine n)) = n
plan_line before (plan.Script (script.UnknownInterface n)) = n
plan_line before (plan.Script (script.RepeatedAttempt n)) = n
plan_line before (plan.Script script.NoMemory) = before
plan_line before (plan.TooManyRules n) = n

-- the text spells no faults for a bus with these names: it is not UTF-8, its first wrong line has this fault, or memory
-- was refused
abbrev pub IsNoPlan : List (List ℕ) → List ℕ → ℕ → ℕ → ℕ → Type 0
IsNoPlan names faults before code line =
    ((code ≡ 25) × (line ≡ before) × (IsUtf8 faults → ⊥))
    ⊎ ((why : PlanError) × ReadsPlan names faults (Err why) × (code ≡ plan_code why) × (line ≡ plan_line before why))

-- the bench is created from a string of names, a configuration struct, and the text of the faults; no line has been
-- carried out yet
pub record IsBenchOf (text : List ℕ) (c : CConfig) (capacity : ℕ) (shows : Bool) (faults : List ℕ)
    (b : KeptBench) : Type 0 where
  pub config : BusConfig
  pub plan : PlanSeen
  pub config_is : IsConfigIn (length (names_in text)) c config
  pub plan_is : ReadsPlan (names_in text) faults (Ok plan)
  pub fits : IsBench (names_in text) config capacity
  pub named : AreNames (names_in text)
  pub rates : HasRates c
  pub made : b ≡ kept_at_start shows plan (timing_of_numbers c.bitrate c.data_bitrate) (names_in text) config capacity

-- the reason why no such bench can be created
abbrev pub IsNoBench : List ℕ → CConfig → ℕ → List ℕ → ℕ → ℕ → ℕ → Type 0
IsNoBench text c capacity faults before code line =
    ((IsNoNames text code ⊎ IsNoTiming c code ⊎ IsNoConfig c code) × (line ≡ before))
    ⊎ IsNoPlan (names_in text) faults before code line
    ⊎ ((code ≡ 21) × (line ≡ before) × (config : BusConfig) × IsConfigIn (length (names_in text)) c config
    × (IsBench (names_in text) config capacity → ⊥))
    ⊎ ((code ≡ 10) × (line ≡ before))

-- a bench is created, or the code gives the reason why not
abbrev pub IsBenchCall : List ℕ → CConfig → ℕ → ℕ → List ℕ → ℕ → ℕ → ℕ → Type 0
IsBenchCall text c capacity shows faults before code line =
    MatchBool (code == 0)
    ((b : KeptBench) × IsBenchOf text c capacity (not (shows == 0)) faults b × (line ≡ before))
    (IsNoBench text c capacity faults before code line)
