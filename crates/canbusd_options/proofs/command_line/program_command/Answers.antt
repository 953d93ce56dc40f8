use Rattle.std.proofs.Common.{◌≡◌, codes, refl, ap}
use Rattle.std.proofs.lemmas.Result.{IfOk-weaker}
use Rattle.clap.specs.Words.{app_of, new_app}
use Rattle.canbusd_options.specs.Program.{audit_app, bench_app, bits_app, serve_app, with_commands}
use Rattle.canbusd_options.proofs.Rules.{below}
use Rattle.canbusd_options.proofs.command_line.program_command.Goals as goal

pub returns : goal.returns
returns c =
    let base : app_of c.subcommand_required.result ≡ with_commands (new_app (codes "canbusd")) =
    rw (c.subcommand_required.ensures, c.after_help.ensures, c.about.ensures, c.version.ensures) (ap with_commands c.new.ensures.app) in
    IfOk-weaker c.subcommand-4.result _ _ (λ whole adds. below _ _ _ _ bits_app adds c.in_ok-bits_command.ensures refl
    (below _ _ _ _ audit_app c.in_ok-subcommand-3.ensures c.in_ok-audit_command.ensures refl
    (below _ _ _ _ serve_app c.in_ok-subcommand-2.ensures c.in_ok-serve_command.ensures refl
    (below _ _ _ _ bench_app c.in_ok-subcommand.ensures c.in_ok-bench_command.ensures refl base)))) c.subcommand-4.ensures
