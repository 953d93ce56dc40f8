use Rattle.std.specs.Prelude.{ℕ, ◌⊎◌, List, Option}
use Rattle.std.specs.Io.KnownBytes.{Appends}
use Rattle.clap.specs.Words.{Text}
use Rattle.can_bits.specs.Text.{IsBitsText}
use Rattle.canbusd_options.specs.declared.bits_options.BitsOptions.{BitsOptions}
use Rattle.canbusd_options.specs.declared.command_line.Job.{Job}
use Rattle.canbusd_options.specs.declared.command_line.Job.TheVariants as job
use Rattle.canbusd_options.specs.Program.{IsAsked}
use Rattle.canbusd_options.specs.Help.{AskHelp}
use Rattle.canbusd_audit.specs.Audited.{AuditsFiles}
use Rattle.canbusd_bench.specs.Benched.{IsBenched}
use Rattle.canbusd_serve.specs.Served.{IsServed}

-- What is known about a command line that ends with status 0 (own choice).

-- the text with the bits of a frame was written, as the options of `bits` request
abbrev pub WritesBits : {W : Type 0} → BitsOptions → (W → Option (List ℕ)) → W → W → Type 0
WritesBits o contents old new =
    (text : List ℕ) × IsBitsText o.frame o.others.items o.timing text × Appends (contents old) (contents new) text

-- the job was done with the rest of an input, and its output was written: a bench with its options, an audit, a server
-- whose records are legal, or the bits of a frame. An audit succeeds for the text of a legal record, or for the
-- beginning of such a text if it may be cut off. If requested, it writes the events and the rules that gave the
-- verdicts.
abbrev pub IsDone : {W : Type 0} → (W → Option (List ℕ)) → Job → Option (List ℕ) → W → W → Type 0
IsDone contents (job.Bench o) input old new = IsBenched contents o input old new
IsDone contents (job.Audit o) input old new = AuditsFiles o.is_cut o.output contents old new
IsDone contents (job.Serve o) input old new = IsServed contents o old new
IsDone contents (job.Bits o) input old new = WritesBits o contents old new

-- the job that the command line requests was done
pub record IsJobDone {W : Type 0} (contents : W → Option (List ℕ)) (words : List Text) (input : Option (List ℕ))
    (old new : W) : Type 0 where
  pub job : Job
  pub asked : IsAsked words job
  pub done : IsDone contents job input old new

-- the job that the command line requests was done, or the command line requests help
abbrev pub Succeeds : {W : Type 0} → (W → Option (List ℕ)) → List Text → Option (List ℕ) → W → W → Type 0
Succeeds contents words input old new = IsJobDone contents words input old new ⊎ AskHelp words
