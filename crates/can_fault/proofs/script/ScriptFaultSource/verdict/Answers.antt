use Rattle.std.proofs.Common.{ap, ◌∙◌, unwrap_or}
use Rattle.can_fault.specs.declared.verdict.Verdict.TheVariants.{Good}
use Rattle.can_fault.proofs.script.ScriptFaultSource.verdict.Goals as goal

pub returns-clause-answer : goal.returns-clause-answer
returns-clause-answer c = c.unwrap_or.ensures ∙ ap (λ o. unwrap_or o Good) c.line.ensures
