use Rattle.std.proofs.Common.{refl}
use Rattle.std.proofs.lemmas.Result.{IfOk-weaker}
use Rattle.canbusd_options.proofs.Rules.{added}
use Rattle.canbusd_options.proofs.bit_rates.with_bit_rates.Goals as goal

pub returns : goal.returns
returns c =
    IfOk-weaker c.arg-2.result _ _ (λ new adds. added _ _ _ _ _ adds c.rate_option-2.ensures.local c.rate_option-2.ensures.rule
    (added _ _ _ _ _ c.in_ok-arg.ensures c.rate_option.ensures.local c.rate_option.ensures.rule refl)) c.arg-2.ensures
