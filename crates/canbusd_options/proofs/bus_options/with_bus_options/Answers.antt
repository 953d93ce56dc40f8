use Rattle.std.proofs.Common.{refl, ap, ◌∙◌}
use Rattle.std.proofs.lemmas.Result.{IfOk-weaker}
use Rattle.canbusd_options.specs.Program.{with_rate_rules}
use Rattle.canbusd_options.proofs.Rules.{added}
use Rattle.canbusd_options.proofs.bus_options.with_bus_options.Goals as goal

pub returns : goal.returns
returns c =
    let said = added _ _ _ _ _ c.in_ok-command.ensures c.number_option-3.ensures.local c.number_option-3.ensures.rule
    (added _ _ _ _ _ c.in_ok-arg-5.ensures c.free_option.ensures.local c.free_option.ensures.rule
    (added _ _ _ _ _ c.in_ok-arg-4.ensures c.number_option-2.ensures.local c.number_option-2.ensures.rule
    (added _ _ _ _ _ c.in_ok-arg-3.ensures c.number_option.ensures.local c.number_option.ensures.rule
    (added _ _ _ _ _ c.in_ok-arg-2.ensures c.report_option.ensures.local c.report_option.ensures.rule
    (added _ _ _ _ _ c.in_ok-arg.ensures c.ack_option.ensures.local c.ack_option.ensures.rule refl))))) in
    IfOk-weaker c.with_bit_rates.result _ _ (λ new is. is ∙ ap with_rate_rules said) c.with_bit_rates.ensures
