use Rattle.std.proofs.Common.{sym, ap, ◌∙◌}
use Rattle.std.specs.FinMap.{get}
use Rattle.can_fault.proofs.VerdictMaps.{get-from_table}
use Rattle.can_fault.proofs.script.Script.line.Goals as goal

pub returns : goal.returns
returns c = c.copied.ensures ∙ c.get.ensures.value ∙ sym (get-from_table c.self.inside.verdicts c.args.attempt) ∙ ap (λ m. get m c.args.attempt) c.self.view_is
