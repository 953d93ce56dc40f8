use Rattle.std.specs.Prelude.{◌≡◌, ◌⊎◌, ℕ, true, List, length, Option, Ok, Err, IsSomeAnd, MatchOption}
use Rattle.std.specs.Io.KnownBytes.{Keeps}
use Rattle.can_frame.specs.Names.{AreNames, names_in}
use Rattle.can_fault.specs.Sources.{no_verdicts}
use Rattle.can_rules.specs.Plans.{PlanSeen}
use Rattle.can_event.specs.Events.{IsConfig}
use Rattle.can_record.specs.Journal.{Kept}
use Rattle.can_bus.specs.Legal.{IsLegal}
use Rattle.can_session.specs.declared.bench_run.BenchFault.TheVariants.{BadConfig}
use Rattle.can_session.specs.Benches.{BenchState}
use Rattle.can_session.specs.Runs.{EndsOver, IsBench, at_start_with}
use Rattle.canbusd_options.specs.declared.bench_options.BenchOptions.{BenchOptions}
use Rattle.canbusd_io.specs.Buses.{IsPlan, config_of}
use Rattle.canbusd_io.specs.Files.{IsOfLogFile, IsOfNames, IsOfRecordFile, IsOfPlan}
use Rattle.canbusd_bench.specs.declared.bench_job.Ran.{Ran}
use Rattle.canbusd_bench.specs.Refusals.{GrowsByRefusal, GrowsQuietly}
use Rattle.canbusd_io.specs.declared.program_error.ProgramError.{ProgramError}
use Rattle.canbusd_io.specs.declared.program_error.ProgramError.TheVariants as fault

-- The run of a bench with these options (own choice).

-- the bench with these options, faults and names, before its first line
abbrev pub begun : PlanSeen → BenchOptions → List (List ℕ) → BenchState
begun plan o names =
    at_start_with o.shows_faults plan o.timing names (config_of o.settings (length names)) o.settings.rx_capacity

-- a run with these options ends with this error; if a number is outside its limits, nothing was read or written
abbrev pub StopsBy : {W : Type 0} → (W → Option (List ℕ)) → BenchOptions → List (List ℕ) → PlanSeen
    → Option (List ℕ) → W → ProgramError → W → Type 0
StopsBy contents o names plan input out (fault.Bench BadConfig) new =
    (IsBench names (config_of o.settings (length names)) o.settings.rx_capacity → ⊥) × (new ≡ out)
StopsBy contents o names plan input out (fault.Bench why) new =
    EndsOver contents no_verdicts input (begun plan o names) out (Err why) new
StopsBy contents o names plan input out _ new = ⊥

-- a run with these options ends with an error in its script before anything was written; or the script is valid, and
-- the run itself ends with an error
abbrev pub FailsBy : {W : Type 0} → (W → Option (List ℕ)) → BenchOptions → List (List ℕ) → Option (List ℕ) → W
    → ProgramError → W → Type 0
FailsBy contents o names input out why new =
    (IsOfPlan o.bus.script names why × (new ≡ out))
    ⊎ ((plan : PlanSeen) × IsPlan o.bus.script names plan × StopsBy contents o names plan input out why new)

-- a run with these options and names is complete. The record has the configuration that the options define, and this
-- configuration is within its limits
pub record IsRunAsAsked {W : Type 0} (contents : W → Option (List ℕ)) (o : BenchOptions) (names : List (List ℕ))
    (input : Option (List ℕ)) (old : W) (r : Kept) (new : W) : Type 0 where
  pub plan : PlanSeen
  pub scripted : IsPlan o.bus.script names plan
  pub ends : EndsOver contents no_verdicts input (begun plan o names) old (Ok r) new
  pub config : r.config ≡ config_of o.settings (length names)
  pub proper : IsConfig r.config
  pub legal : IsLegal r.config r.history

-- a run with these options is complete and all its output was written; if the options are strict, the output contains
-- no refusal
pub record IsBenched {W : Type 0} (contents : W → Option (List ℕ)) (o : BenchOptions) (input : Option (List ℕ))
    (old new : W) : Type 0 where
  pub named : AreNames (names_in o.bus.names.now)
  pub kept : Kept
  pub written : W
  pub run : IsRunAsAsked contents o (names_in o.bus.names.now) input old kept written
  pub flushed : Keeps (contents written) (contents new)
  pub strict : o.is_strict ≡ true → GrowsQuietly (contents old) (contents written)

-- a run with these options is complete and all its output was written; if the bytes of the output are known, the
-- options are strict and the output contains a refusal
pub record MeetsRefusal {W : Type 0} (contents : W → Option (List ℕ)) (o : BenchOptions) (input : Option (List ℕ))
    (old new : W) : Type 0 where
  pub named : AreNames (names_in o.bus.names.now)
  pub kept : Kept
  pub written : W
  pub run : IsRunAsAsked contents o (names_in o.bus.names.now) input old kept written
  pub flushed : Keeps (contents written) (contents new)
  pub refused : GrowsByRefusal o.is_strict (contents old) (contents written)

-- a run is complete, with or without a refused message
abbrev pub HasRun : {W : Type 0} → (W → Option (List ℕ)) → BenchOptions → Option (List ℕ) → W → Ran → W → Type 0
HasRun contents o input old ran new =
    MatchOption ran.refusal (IsBenched contents o input old new) (λ failure.
    (failure.error ≡ fault.Refused) × MeetsRefusal contents o input old new)

-- the bench with these options ends early: with an error in its names, before anything was written; with an error in
-- writing; or with an error in the run, whose output was written
abbrev pub IsStopped :
    {W : Type 0} → (W → Option (List ℕ)) → BenchOptions → Option (List ℕ) → W → ProgramError → W → Type 0
IsStopped {W} contents o input old why new =
    (IsOfNames o.bus.names.now why × (new ≡ old))
    ⊎ ((why ≡ fault.Write)
    ⊎ (AreNames (names_in o.bus.names.now)
    × (written : W)
    × FailsBy contents o (names_in o.bus.names.now) input old why written
    × Keeps (contents written) (contents new)))

-- an error for the record's file or the log's file, if the options request these files
abbrev pub IsOfOutputFiles : BenchOptions → ProgramError → Type 0
IsOfOutputFiles o why =
    IsSomeAnd o.record (λ path. IsOfRecordFile path.now why)
    ⊎ IsSomeAnd o.log (λ path. IsOfLogFile o.bus path.now why)

-- the bench with these options ends with an error: early, or after the run because of a file or a refused message
abbrev pub FailsAs :
    {W : Type 0} → (W → Option (List ℕ)) → BenchOptions → Option (List ℕ) → W → ProgramError → W → Type 0
FailsAs contents o input old why new =
    IsStopped contents o input old why new
    ⊎ ((IsOfOutputFiles o why × (IsBenched contents o input old new ⊎ MeetsRefusal contents o input old new))
    ⊎ ((why ≡ fault.Refused) × MeetsRefusal contents o input old new))
