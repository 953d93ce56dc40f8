use Rattle.std.proofs.Common.{map, ap, ◌∙◌}
use Rattle.std.proofs.lemmas.Result.{IfOk-weaker}
use Rattle.canbusd_options.proofs.audit_options.files_given.Goals as goal

pub returns : goal.returns
returns c = IfOk-weaker c.from_slice.result _ _ (λ files are. ap (map (λ file. file.now)) are ∙ c.words_given.ensures) c.from_slice.ensures.items
