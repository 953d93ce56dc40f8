use Rattle.std.proofs.Common.{◌≡◌, codes}
use Rattle.std.proofs.lemmas.Result.{IfOk-weaker}
use Rattle.clap.specs.Words.{app_of, new_app}
use Rattle.canbusd_options.proofs.Rules.{added}
use Rattle.canbusd_options.proofs.bits_options.bits_command.Goals as goal

pub returns : goal.returns
returns c =
    let base : app_of c.after_help.result ≡ new_app (codes "bits") = rw (c.after_help.ensures, c.about.ensures) c.new.ensures.app in
    IfOk-weaker c.arg-4.result _ _ (λ last adds. added _ _ _ _ _ adds c.others_argument.ensures.local c.others_argument.ensures.rule
    (added _ _ _ _ _ c.in_ok-arg-3.ensures c.frame_argument.ensures.local c.frame_argument.ensures.rule
    (added _ _ _ _ _ c.in_ok-arg-2.ensures c.free_option-2.ensures.local c.free_option-2.ensures.rule
    (added _ _ _ _ _ c.in_ok-arg.ensures c.free_option.ensures.local c.free_option.ensures.rule base)))) c.arg-4.ensures
