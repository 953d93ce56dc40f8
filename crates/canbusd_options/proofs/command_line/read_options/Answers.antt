use Rattle.std.proofs.Common.{◌≡◌, codes, inr, refl, map, string_bytes, rules}
use Rattle.std.proofs.lemmas.Result.{IfErr-weaker}
use Rattle.clap.specs.declared.error.kind.ErrorKind.TheVariants.{OutOfMemory}
use Rattle.clap.specs.Words.{fault_of, kind_of}
use Rattle.canbusd_options.specs.Help.{AskHelp, IsOfKinds, ShowsHelp}
use Rattle.canbusd_options.specs.Options.{rows_in}
use Rattle.canbusd_options.specs.Program.{AskJob, program}
use Rattle.canbusd_options.proofs.Asking.{asked_by, asks_nothing, gives_audit, gives_bench, gives_bits, gives_serve, met_by, named_by}
use Rattle.canbusd_options.proofs.Helping.{help_is_asked, is_of_memory, is_of_parse, is_of_value, no_fault, parse_takes, passed_on}
use Rattle.canbusd_options.proofs.command_line.read_options.Goals as goal

pub returns-in_err-program_command-clause-refused : goal.returns-in_err-program_command-clause-refused
returns-in_err-program_command-clause-refused c =
    let words = map string_bytes c.args.words.now in
    IfErr-weaker c.from_residual.result (λ e. kind_of e ≡ OutOfMemory) (IsOfKinds (fault_of program words)) (λ e memory. is_of_memory words e memory) (search rules)

pub returns-in_err-matches-clause-taken : goal.returns-in_err-matches-clause-taken
returns-in_err-matches-clause-taken c =
    let words = map string_bytes c.args.words.now in
    passed_on (λ e. AskJob words → kind_of e ≡ OutOfMemory) c.in_err-matches.field-0.0 _ c.from_residual-in_err-matches.ensures.1
    (parse_takes _ words c.in_err-matches.field-0.0 c.in_ok-program_command.ensures c.in_err-matches.ensures.kinds)

pub returns-in_err-matches-clause-refused : goal.returns-in_err-matches-clause-refused
returns-in_err-matches-clause-refused c =
    let words = map string_bytes c.args.words.now in
    passed_on (IsOfKinds (fault_of program words)) c.in_err-matches.field-0.0 _ c.from_residual-in_err-matches.ensures.1
    (is_of_parse _ words c.in_err-matches.field-0.0 c.in_ok-program_command.ensures c.in_err-matches.ensures.kinds)

pub returns-in_err-matches-clause-help : goal.returns-in_err-matches-clause-help
returns-in_err-matches-clause-help c =
    let words = map string_bytes c.args.words.now in
    passed_on (λ e. ShowsHelp e → AskHelp words) c.in_err-matches.field-0.0 _ c.from_residual-in_err-matches.ensures.1
    (help_is_asked words c.in_err-matches.field-0.0 (is_of_parse _ words c.in_err-matches.field-0.0 c.in_ok-program_command.ensures c.in_err-matches.ensures.kinds))

pub returns-in_err-bench_options-clause-taken : goal.returns-in_err-bench_options-clause-taken
returns-in_err-bench_options-clause-taken c =
    let words = map string_bytes c.args.words.now in
    passed_on (λ e. AskJob words → kind_of e ≡ OutOfMemory) c.in_err-bench_options.field-0.0 _ c.from_residual-in_err-bench_options.ensures.1
    (λ ask. c.in_err-bench_options.ensures.taken (gives_bench words _ (met_by _ words _ (codes "bench") _ c.in_ok-program_command.ensures c.in_ok-matches.ensures.matches (c.in-Some.ensures.found.0 refl) c.in-Some.ensures.rows) ask))

pub returns-in_err-bench_options-clause-refused : goal.returns-in_err-bench_options-clause-refused
returns-in_err-bench_options-clause-refused c =
    let words = map string_bytes c.args.words.now in
    passed_on (IsOfKinds (fault_of program words)) c.in_err-bench_options.field-0.0 _ c.from_residual-in_err-bench_options.ensures.1
    (is_of_value words c.in_err-bench_options.field-0.0 (no_fault _ words c.in_ok-program_command.ensures c.in_ok-matches.ensures.kinds) c.in_err-bench_options.ensures.refused)

pub returns-in-Some-clause-asked : goal.returns-in-Some-clause-asked
returns-in-Some-clause-asked c =
    let words = map string_bytes c.args.words.now in
    asked_by words _ (codes "bench", rows_in c.in-Some.bench.now) (no_fault _ words c.in_ok-program_command.ensures c.in_ok-matches.ensures.kinds)
    (met_by _ words _ (codes "bench") _ c.in_ok-program_command.ensures c.in_ok-matches.ensures.matches (c.in-Some.ensures.found.0 refl) c.in-Some.ensures.rows)
    (refl, c.in_ok-bench_options.ensures.given)

pub returns-in_err-serve_options-clause-taken : goal.returns-in_err-serve_options-clause-taken
returns-in_err-serve_options-clause-taken c =
    let words = map string_bytes c.args.words.now in
    passed_on (λ e. AskJob words → kind_of e ≡ OutOfMemory) c.in_err-serve_options.field-0.0 _ c.from_residual-in_err-serve_options.ensures.1
    (λ ask. c.in_err-serve_options.ensures.taken (gives_serve words _ (met_by _ words _ (codes "serve") _ c.in_ok-program_command.ensures c.in_ok-matches.ensures.matches (c.in-Some-subcommand_matches.ensures.found.0 refl) c.in-Some-subcommand_matches.ensures.rows) ask))

pub returns-in_err-serve_options-clause-refused : goal.returns-in_err-serve_options-clause-refused
returns-in_err-serve_options-clause-refused c =
    let words = map string_bytes c.args.words.now in
    passed_on (IsOfKinds (fault_of program words)) c.in_err-serve_options.field-0.0 _ c.from_residual-in_err-serve_options.ensures.1
    (is_of_value words c.in_err-serve_options.field-0.0 (no_fault _ words c.in_ok-program_command.ensures c.in_ok-matches.ensures.kinds) c.in_err-serve_options.ensures.refused)

pub returns-in-Some-subcommand_matches-clause-asked : goal.returns-in-Some-subcommand_matches-clause-asked
returns-in-Some-subcommand_matches-clause-asked c =
    let words = map string_bytes c.args.words.now in
    asked_by words _ (codes "serve", rows_in c.in-Some-subcommand_matches.serve.now) (no_fault _ words c.in_ok-program_command.ensures c.in_ok-matches.ensures.kinds)
    (met_by _ words _ (codes "serve") _ c.in_ok-program_command.ensures c.in_ok-matches.ensures.matches (c.in-Some-subcommand_matches.ensures.found.0 refl) c.in-Some-subcommand_matches.ensures.rows)
    (refl, c.in_ok-serve_options.ensures.given)

pub returns-in_err-audit_options-clause-taken : goal.returns-in_err-audit_options-clause-taken
returns-in_err-audit_options-clause-taken c =
    let words = map string_bytes c.args.words.now in
    let m = c.in-Some-subcommand_matches-2.audit.now in
    passed_on (λ e. AskJob words → kind_of e ≡ OutOfMemory) c.in_err-audit_options.field-0.0 _ c.from_residual-in_err-audit_options.ensures.1
    (λ ask. c.in_err-audit_options.ensures.taken (gives_audit words (rows_in m) (met_by _ words _ (codes "audit") _ c.in_ok-program_command.ensures c.in_ok-matches.ensures.matches (c.in-Some-subcommand_matches-2.ensures.found.0 refl) c.in-Some-subcommand_matches-2.ensures.rows) ask))

pub returns-in_err-audit_options-clause-refused : goal.returns-in_err-audit_options-clause-refused
returns-in_err-audit_options-clause-refused c =
    let words = map string_bytes c.args.words.now in
    passed_on (IsOfKinds (fault_of program words)) c.in_err-audit_options.field-0.0 _ c.from_residual-in_err-audit_options.ensures.1
    (is_of_value words c.in_err-audit_options.field-0.0 (no_fault _ words c.in_ok-program_command.ensures c.in_ok-matches.ensures.kinds) c.in_err-audit_options.ensures.refused)

pub returns-in-Some-subcommand_matches-2-clause-asked : goal.returns-in-Some-subcommand_matches-2-clause-asked
returns-in-Some-subcommand_matches-2-clause-asked c =
    let words = map string_bytes c.args.words.now in
    let m = c.in-Some-subcommand_matches-2.audit.now in
    asked_by words _ (codes "audit", rows_in m) (no_fault _ words c.in_ok-program_command.ensures c.in_ok-matches.ensures.kinds)
    (met_by _ words _ (codes "audit") _ c.in_ok-program_command.ensures c.in_ok-matches.ensures.matches (c.in-Some-subcommand_matches-2.ensures.found.0 refl) c.in-Some-subcommand_matches-2.ensures.rows)
    (refl, c.in_ok-audit_options.ensures.given)

pub returns-in_err-bits_options-in-Some-subcommand_matches-3-clause-taken : goal.returns-in_err-bits_options-in-Some-subcommand_matches-3-clause-taken
returns-in_err-bits_options-in-Some-subcommand_matches-3-clause-taken c =
    let words = map string_bytes c.args.words.now in
    let m = c.in-Some-subcommand_matches-3.bits.now in
    passed_on (λ e. AskJob words → kind_of e ≡ OutOfMemory) c.in_err-bits_options-in-Some-subcommand_matches-3.field-0.0 _ c.from_residual-in_err-bits_options-in-Some-subcommand_matches-3.ensures.1
    (λ ask. c.in_err-bits_options-in-Some-subcommand_matches-3.ensures.taken (gives_bits words (rows_in m) (met_by _ words _ (codes "bits") _ c.in_ok-program_command.ensures c.in_ok-matches.ensures.matches (c.in-Some-subcommand_matches-3.ensures.found.0 refl) c.in-Some-subcommand_matches-3.ensures.rows) ask))

pub returns-in_err-bits_options-in-Some-subcommand_matches-3-clause-refused : goal.returns-in_err-bits_options-in-Some-subcommand_matches-3-clause-refused
returns-in_err-bits_options-in-Some-subcommand_matches-3-clause-refused c =
    let words = map string_bytes c.args.words.now in
    passed_on (IsOfKinds (fault_of program words)) c.in_err-bits_options-in-Some-subcommand_matches-3.field-0.0 _ c.from_residual-in_err-bits_options-in-Some-subcommand_matches-3.ensures.1
    (is_of_value words c.in_err-bits_options-in-Some-subcommand_matches-3.field-0.0 (no_fault _ words c.in_ok-program_command.ensures c.in_ok-matches.ensures.kinds) c.in_err-bits_options-in-Some-subcommand_matches-3.ensures.refused)

pub returns-in-Some-subcommand_matches-3-clause-asked : goal.returns-in-Some-subcommand_matches-3-clause-asked
returns-in-Some-subcommand_matches-3-clause-asked c =
    let words = map string_bytes c.args.words.now in
    let m = c.in-Some-subcommand_matches-3.bits.now in
    asked_by words _ (codes "bits", rows_in m) (no_fault _ words c.in_ok-program_command.ensures c.in_ok-matches.ensures.kinds)
    (met_by _ words _ (codes "bits") _ c.in_ok-program_command.ensures c.in_ok-matches.ensures.matches (c.in-Some-subcommand_matches-3.ensures.found.0 refl) c.in-Some-subcommand_matches-3.ensures.rows)
    (refl, c.in_ok-bits_options-in-Some-subcommand_matches-3.ensures.given)

pub returns-in_err-error-in-None-clause-refused : goal.returns-in_err-error-in-None-clause-refused
returns-in_err-error-in-None-clause-refused c =
    let words = map string_bytes c.args.words.now in
    IfErr-weaker c.from_residual-in_err-error-in-None.result (λ e. kind_of e ≡ OutOfMemory) (IsOfKinds (fault_of program words)) (λ e memory. is_of_memory words e memory) (search rules)

pub returns-clause-taken : goal.returns-clause-taken
returns-clause-taken c =
    let words = map string_bytes c.args.words.now in
    λ ask. absurd (asks_nothing words c.in_ok-matches.matches (named_by _ words _ c.in_ok-program_command.ensures c.in_ok-matches.ensures.matches)
    (λ e. absurd (search (rules, c.in_default.ensures.found.1 e)))
    (λ e. absurd (search (rules, c.in_default-subcommand_matches.ensures.found.1 e)))
    (λ e. absurd (search (rules, c.in_default-subcommand_matches-2.ensures.found.1 e)))
    (λ e. absurd (search (rules, c.in-None.ensures.found.1 e))) ask)

pub returns-clause-refused : goal.returns-clause-refused
returns-clause-refused c =
    let words = map string_bytes c.args.words.now in
    is_of_value words c.in_ok-error-in-None.field-0 (no_fault _ words c.in_ok-program_command.ensures c.in_ok-matches.ensures.kinds) (inr c.in_ok-error-in-None.ensures)
