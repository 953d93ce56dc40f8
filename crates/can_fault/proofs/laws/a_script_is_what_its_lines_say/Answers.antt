use Rattle.std.proofs.Common.{⊎_elim, inr}
use Rattle.std.specs.Ordering.{nat_cmp}
use Rattle.std.specs.FinMap.{get-empty}
use Rattle.can_fault.specs.declared.verdict.Verdict.{Verdict}
use Rattle.can_fault.specs.Sources.{no_verdicts}
use Rattle.can_fault.specs.Scripts.{sayings}
use Rattle.can_fault.proofs.ScriptLaws.{found, kept}
use Rattle.can_fault.proofs.laws.a_script_is_what_its_lines_say.Goals as goal

pub returns : goal.returns
returns c = λ names text verdicts attempt verdict spelled.
    (λ had. ⊎_elim (λ none. let empty = get-empty {X = Verdict} nat_cmp attempt in cc) (λ given. given) (found no_verdicts 1 (sayings names text) verdicts attempt verdict spelled had), λ given. kept no_verdicts 1 (sayings names text) verdicts attempt verdict spelled (inr given))
