use Rattle.std.proofs.Common.{◌≡◌, codes, ap, ◌∙◌}
use Rattle.std.proofs.lemmas.Result.{IfOk-weaker}
use Rattle.clap.specs.Words.{app_of, new_app}
use Rattle.canbusd_options.specs.Program.{with_rate_rules}
use Rattle.canbusd_options.proofs.Rules.{added}
use Rattle.canbusd_options.proofs.audit_options.audit_command.Goals as goal

pub returns : goal.returns
returns c =
    let base : app_of c.after_help.result ≡ new_app (codes "audit") = rw (c.after_help.ensures, c.about.ensures) c.new.ensures.app in
    let flags = added _ _ _ _ _ c.in_ok-command.ensures c.events_option.ensures.local c.events_option.ensures.rule
    (added _ _ _ _ _ c.in_ok-arg.ensures c.cut_option.ensures.local c.cut_option.ensures.rule base) in
    let rates = c.in_ok-with_bit_rates.ensures ∙ ap with_rate_rules flags in
    IfOk-weaker c.arg-4.result _ _ (λ last adds. added _ _ _ _ _ adds c.files_argument.ensures.local c.files_argument.ensures.rule
    (added _ _ _ _ _ c.in_ok-arg-2.ensures c.free_option.ensures.local c.free_option.ensures.rule rates)) c.arg-4.ensures
