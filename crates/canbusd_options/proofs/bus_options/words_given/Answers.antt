use Rattle.std.proofs.Common.{◌≡◌, [], map, ap, ◌∙◌}
use Rattle.canbusd_options.proofs.Rules.{texts_in_rows, unwrapped}
use Rattle.canbusd_options.proofs.bus_options.words_given.Goals as goal

pub returns : goal.returns
returns c =
    unwrapped (λ words. map (λ word. word.now) words.now) c.get_strs.result c.unwrap_or_default.result (λ words. words.now ≡ []) _ c.unwrap_or_default.ensures
    (λ empty. ap (map (λ word. word.now)) empty) (c.get_strs.ensures ∙ texts_in_rows c.args.matches.now c.args.option.now)
