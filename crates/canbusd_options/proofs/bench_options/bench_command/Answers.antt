use Rattle.std.proofs.Common.{◌≡◌, codes, ap, ◌∙◌}
use Rattle.std.proofs.lemmas.Result.{IfOk-weaker}
use Rattle.clap.specs.Words.{app_of, new_app}
use Rattle.canbusd_options.specs.Program.{with_bus_rules}
use Rattle.canbusd_options.proofs.Rules.{added}
use Rattle.canbusd_options.proofs.bench_options.bench_command.Goals as goal

pub returns : goal.returns
returns c =
    let base : app_of c.after_help-command.result ≡ new_app (codes "bench") = rw (c.after_help-command.ensures, c.about.ensures) c.new.ensures.app in
    IfOk-weaker c.arg-5.result _ _ (λ last adds. added _ _ _ _ _ adds c.bus_argument.ensures.local c.bus_argument.ensures.rule
    (added _ _ _ _ _ c.in_ok-arg-4.ensures c.show_faults_option.ensures.local c.show_faults_option.ensures.rule
    (added _ _ _ _ _ c.in_ok-arg-3.ensures c.strict_option.ensures.local c.strict_option.ensures.rule
    (added _ _ _ _ _ c.in_ok-arg-2.ensures c.log_option.ensures.local c.log_option.ensures.rule
    (added _ _ _ _ _ c.in_ok-arg.ensures c.record_option.ensures.local c.record_option.ensures.rule
    (c.in_ok-with_bus_options.ensures ∙ ap with_bus_rules base)))))) c.arg-5.ensures
