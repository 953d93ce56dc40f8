use Rattle.std.proofs.Common.{◌≡◌, ◌⊎◌, inl, inr, codes, List, [], Option, Some, None, true, refl, rules, ap, ap₂, sym, subst, ◌∙◌}
use Rattle.std.specs.Option.{option_map}
use Rattle.clap.specs.declared.builder.command.Command.{Command}
use Rattle.clap.specs.declared.parser.matches.ArgMatches.{ArgMatches}
use Rattle.clap.specs.Words.{App, HasMatchesOf, Row, Text, app_of, fault_of, is_simple, subcommand_name_of, subcommand_of, subcommand_rows_of}
use Rattle.clap.proofs.OnLiterals.{clap_on_literals}
use Rattle.canbusd_options.specs.declared.command_line.Job.{Job}
use Rattle.canbusd_options.specs.declared.command_line.Job.TheVariants as job
use Rattle.canbusd_options.specs.BitsOptions.{GiveBitsOptions}
use Rattle.canbusd_options.specs.Options.{GiveAuditOptions, GiveBenchOptions, GiveServeOptions}
use Rattle.canbusd_options.specs.Program.{AskJob, Asks, IsAsked, program}

-- The job that words ask for, from the matches of their parse.

-- the program is simple, so clap's contract says what its matches are
simple : is_simple program ≡ true
unfolding clap_on_literals
simple = refl

first_parts : {A : Type 0} (f : A → Text) (g : A → List Row) (o : Option A) → option_map (λ (p : Text × List Row). p.0) (option_map (λ a. (f a, g a)) o) ≡ option_map f o
first_parts f g None = refl
first_parts f g (Some a) = refl

-- the name of the subcommand is the name that its rows come with
named : (m : ArgMatches) → option_map (λ (p : Text × List Row). p.0) (subcommand_rows_of m) ≡ subcommand_name_of m
named m = first_parts _ _ _

both_parts : (o : Option (Text × List Row)) (name : Text) (rows : List Row) → option_map (λ (p : Text × List Row). p.0) o ≡ Some name → option_map (λ (p : Text × List Row). p.1) o ≡ Some rows → o ≡ Some (name, rows)
both_parts (Some (n, r)) name rows first second =
    let same_name : n ≡ name = search rules in
    let same_rows : r ≡ rows = search rules in
    ap₂ (λ x y. Some (x, y)) same_name same_rows
both_parts None name rows first second = absurd (search rules)

-- the matches of the program have the subcommand that the words name
pub named_by : (c : Command) (words : List Text) (m : ArgMatches) → app_of c ≡ program → HasMatchesOf (app_of c) words m → subcommand_rows_of m ≡ subcommand_of program words
named_by c words m is has = (has (ap is_simple is ∙ simple)).1 ∙ ap (λ (a : App). subcommand_of a words) is

-- a subcommand was given, with these rows
pub met_by : (c : Command) (words : List Text) (m : ArgMatches) (name : Text) (rows : List Row) → app_of c ≡ program → HasMatchesOf (app_of c) words m
    → subcommand_name_of m ≡ Some name → option_map (λ (p : Text × List Row). p.1) (subcommand_rows_of m) ≡ Some rows → subcommand_of program words ≡ Some (name, rows)
met_by c words m name rows is has met found = sym (named_by c words m is has) ∙ both_parts _ name rows (named m ∙ met) found

-- if clap finds no fault and a command asks for the job, the words ask for it
pub asked_by : (words : List Text) (j : Job) (p : Text × List Row) → fault_of program words ≡ [] → subcommand_of program words ≡ Some p → Asks (Some p) j → IsAsked words j
asked_by words j p none met asks = (none, subst (λ o. Asks o j) (sym met) asks)

-- words that ask for a job give the options of the command that they name
bench_given : (j : Job) (rows : List Row) → Asks (Some (codes "bench", rows)) j → GiveBenchOptions rows
bench_given (job.Bench o) rows asks = (o, asks.1)
bench_given (job.Serve o) rows asks = absurd (search (rules, asks.0))
bench_given (job.Audit o) rows asks = absurd (search (rules, asks.0))
bench_given (job.Bits o) rows asks = absurd (search (rules, asks.0))

serve_given : (j : Job) (rows : List Row) → Asks (Some (codes "serve", rows)) j → GiveServeOptions rows
serve_given (job.Bench o) rows asks = absurd (search (rules, asks.0))
serve_given (job.Serve o) rows asks = (o, asks.1)
serve_given (job.Audit o) rows asks = absurd (search (rules, asks.0))
serve_given (job.Bits o) rows asks = absurd (search (rules, asks.0))

audit_given : (j : Job) (rows : List Row) → Asks (Some (codes "audit", rows)) j → GiveAuditOptions rows
audit_given (job.Bench o) rows asks = absurd (search (rules, asks.0))
audit_given (job.Serve o) rows asks = absurd (search (rules, asks.0))
audit_given (job.Audit o) rows asks = (o, asks.1)
audit_given (job.Bits o) rows asks = absurd (search (rules, asks.0))

bits_given : (j : Job) (rows : List Row) → Asks (Some (codes "bits", rows)) j → GiveBitsOptions rows
bits_given (job.Bench o) rows asks = absurd (search (rules, asks.0))
bits_given (job.Serve o) rows asks = absurd (search (rules, asks.0))
bits_given (job.Audit o) rows asks = absurd (search (rules, asks.0))
bits_given (job.Bits o) rows asks = (o, asks.1)

pub gives_bench : (words : List Text) (rows : List Row) → subcommand_of program words ≡ Some (codes "bench", rows) → AskJob words → GiveBenchOptions rows
gives_bench words rows met (j, (none, asks)) = bench_given j rows (subst (λ o. Asks o j) met asks)

pub gives_serve : (words : List Text) (rows : List Row) → subcommand_of program words ≡ Some (codes "serve", rows) → AskJob words → GiveServeOptions rows
gives_serve words rows met (j, (none, asks)) = serve_given j rows (subst (λ o. Asks o j) met asks)

pub gives_audit : (words : List Text) (rows : List Row) → subcommand_of program words ≡ Some (codes "audit", rows) → AskJob words → GiveAuditOptions rows
gives_audit words rows met (j, (none, asks)) = audit_given j rows (subst (λ o. Asks o j) met asks)

pub gives_bits : (words : List Text) (rows : List Row) → subcommand_of program words ≡ Some (codes "bits", rows) → AskJob words → GiveBitsOptions rows
gives_bits words rows met (j, (none, asks)) = bits_given j rows (subst (λ o. Asks o j) met asks)

-- words that ask for a job name one of the four commands
names_one : (o : Option (Text × List Row)) (j : Job) → Asks o j
    → (option_map (λ (p : Text × List Row). p.0) o ≡ Some (codes "bench")) ⊎ ((option_map (λ (p : Text × List Row). p.0) o ≡ Some (codes "serve"))
    ⊎ ((option_map (λ (p : Text × List Row). p.0) o ≡ Some (codes "audit")) ⊎ (option_map (λ (p : Text × List Row). p.0) o ≡ Some (codes "bits"))))
names_one None j asks = absurd asks
names_one (Some p) (job.Bench o) asks = inl (ap Some asks.0)
names_one (Some p) (job.Serve o) asks = inr (inl (ap Some asks.0))
names_one (Some p) (job.Audit o) asks = inr (inr (inl (ap Some asks.0)))
names_one (Some p) (job.Bits o) asks = inr (inr (inr (ap Some asks.0)))

pub asks_nothing : (words : List Text) (m : ArgMatches) → subcommand_rows_of m ≡ subcommand_of program words
    → (subcommand_name_of m ≡ Some (codes "bench") → ⊥) → (subcommand_name_of m ≡ Some (codes "serve") → ⊥) → (subcommand_name_of m ≡ Some (codes "audit") → ⊥) → (subcommand_name_of m ≡ Some (codes "bits") → ⊥) → AskJob words → ⊥
asks_nothing words m is bench serve audit bits (j, (none, asks)) = elim (names_one (subcommand_rows_of m) j (subst (λ o. Asks o j) (sym is) asks)) [
  | inl name ↦ bench (sym (named m) ∙ name)
  | inr other ↦ elim other [
    | inl name ↦ serve (sym (named m) ∙ name)
    | inr last ↦ elim last [
      | inl name ↦ audit (sym (named m) ∙ name)
      | inr name ↦ bits (sym (named m) ∙ name)
    ]
  ]
]
