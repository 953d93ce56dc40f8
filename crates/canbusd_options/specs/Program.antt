use Rattle.std.specs.Prelude.{◌≡◌, List, [], ◌∷◌, codes, Option, Some, None, true}
use Rattle.clap.specs.Lexer.{usize_max}
use Rattle.clap.specs.Words.{App, Row, Rule, Text, fault_of, new_app, new_rule}
use Rattle.clap.specs.Words.{subcommand_of, with_rule, with_subcommand}
use Rattle.clap.specs.declared.builder.ArgAction.TheVariants.{Append, SetTrue}
use Rattle.canbusd_options.specs.declared.command_line.Job.{Job}
use Rattle.canbusd_options.specs.declared.command_line.Job.TheVariants as job
use Rattle.canbusd_options.specs.BitsOptions.{AreBitsOptions}
use Rattle.canbusd_options.specs.Options.{AreAuditOptions, AreBenchOptions, AreServeOptions}

-- The command line of canbusd: its commands, with the arguments and defaults of each (own choice). clap's definition
-- `subcommand_of` says how the words of a command line are read.

-- an option --NAME VALUE without a default
abbrev pub option_rule : Text → Rule
option_rule name = record (new_rule name) { long = Some name; value_names = 1 }

-- an option --NAME VALUE that may be given several times
abbrev pub several_rule : Text → Rule
several_rule name = record (option_rule name) { action = Some Append }

-- an option --NAME VALUE with its default
abbrev pub default_rule : Text → Text → Rule
default_rule name value = record (option_rule name) { defaults = value ∷ [] }

-- a flag --NAME
abbrev pub flag_rule : Text → Rule
flag_rule name = record (new_rule name) { long = Some name; action = Some SetTrue }

-- a required argument
abbrev pub word_rule : Text → Rule
word_rule name = record (new_rule name) { required = true }

-- one or more arguments: BUS.. of `serve`, FILE.. of `audit`
abbrev pub words_rule : Text → Rule
words_rule name = record (word_rule name) { range = Some (record { start_inclusive = 1; end_inclusive = usize_max }) }

-- any number of arguments: OTHER.. of `bits`
abbrev pub some_words_rule : Text → Rule
some_words_rule name =
    record (new_rule name) { range = Some (record { start_inclusive = 0; end_inclusive = usize_max }) }

-- the command with the bit rate options added
abbrev pub with_rate_rules : App → App
with_rate_rules a = with_rule (with_rule a (several_rule (codes "bitrate"))) (several_rule (codes "dbitrate"))

-- the command with the options of a bus added
abbrev pub with_bus_rules : App → App
with_bus_rules a =
    with_rate_rules (with_rule (with_rule (with_rule (with_rule (with_rule (with_rule a
    (default_rule (codes "ack") (codes "always")))
    (flag_rule (codes "report")))
    (default_rule (codes "txqueue") (codes "10")))
    (default_rule (codes "rxqueue") (codes "256")))
    (option_rule (codes "limit")))
    (default_rule (codes "auto-restart") (codes "0")))

-- `bench BUS`, with its options
abbrev pub bench_app : App
bench_app =
    with_rule (with_rule (with_rule (with_rule (with_rule (with_bus_rules (new_app (codes "bench")))
    (option_rule (codes "record")))
    (option_rule (codes "log")))
    (flag_rule (codes "strict")))
    (flag_rule (codes "show-faults")))
    (word_rule (codes "BUS"))

-- `serve BUS..`, with its options
abbrev pub serve_app : App
serve_app =
    with_rule (with_rule (with_rule (with_rule (with_rule (with_rule
    (with_rule (with_rule (with_rule (with_rule (with_rule
    (with_bus_rules (new_app (codes "serve")))
    (default_rule (codes "listen") (codes "127.0.0.1:29536")))
    (option_rule (codes "sessions")))
    (default_rule (codes "pace") (codes "1")))
    (default_rule (codes "write") (codes "1024")))
    (option_rule (codes "out")))
    (default_rule (codes "record") (codes "end")))
    (option_rule (codes "flush")))
    (flag_rule (codes "sync")))
    (flag_rule (codes "until-eof")))
    (flag_rule (codes "verbose")))
    (words_rule (codes "BUS"))

-- `audit FILE..`, with its options
abbrev pub audit_app : App
audit_app =
    with_rule (with_rule (with_rate_rules (with_rule (with_rule (new_app (codes "audit"))
    (flag_rule (codes "cut")))
    (flag_rule (codes "events"))))
    (option_rule (codes "faults")))
    (words_rule (codes "FILE"))

-- `bits FRAME OTHER..`, with its options
abbrev pub bits_app : App
bits_app =
    with_rule (with_rule (with_rule (with_rule (new_app (codes "bits"))
    (option_rule (codes "bitrate")))
    (option_rule (codes "dbitrate")))
    (word_rule (codes "FRAME")))
    (some_words_rule (codes "OTHER"))

-- the command with a version and a required subcommand
abbrev pub with_commands : App → App
with_commands a = record a { top = record a.top { has_version = true; subcommand_required = true } }

-- the program with its four commands
abbrev pub program : App
program =
    with_subcommand (with_subcommand (with_subcommand (with_subcommand (with_commands (new_app (codes "canbusd")))
    bench_app.top) serve_app.top) audit_app.top) bits_app.top

-- the name of a command and its rows ask for this job
abbrev pub Asks : Option (Text × List Row) → Job → Type 0
Asks None j = ⊥
Asks (Some p) (job.Bench o) = (p.0 ≡ codes "bench") × AreBenchOptions p.1 o
Asks (Some p) (job.Serve o) = (p.0 ≡ codes "serve") × AreServeOptions p.1 o
Asks (Some p) (job.Audit o) = (p.0 ≡ codes "audit") × AreAuditOptions p.1 o
Asks (Some p) (job.Bits o) = (p.0 ≡ codes "bits") × AreBitsOptions p.1 o

-- the words ask for this job, and clap finds no fault in them
abbrev pub IsAsked : List Text → Job → Type 0
IsAsked words j = (fault_of program words ≡ []) × Asks (subcommand_of program words) j

-- the words ask for a job
abbrev pub AskJob : List Text → Type 0
AskJob words = (j : Job) × IsAsked words j
