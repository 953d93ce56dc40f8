use Rattle.can_fault.specs.Sources.{no_verdicts}
use Rattle.can_fault.specs.Scripts.{sayings, script_spelling, IsFirstFault}
use Rattle.std.proofs.Common.{◌≡◌, Err}
use Rattle.can_fault.proofs.ScriptLaws.{first_fault, from_start, fault_told, to_start}
use Rattle.can_fault.proofs.laws.the_first_fault_is_reported.Goals as goal

pub returns : goal.returns
returns c = λ names text fault.
    let lines = sayings names text in
    let there : script_spelling names text ≡ Err fault → IsFirstFault lines fault =
    λ refused. let told = first_fault no_verdicts 1 lines fault refused in (told.0, told.1, from_start lines told.0 fault told.2) in
    let back : IsFirstFault lines fault → script_spelling names text ≡ Err fault = λ (place, good, has). fault_told no_verdicts 1 lines place fault good (to_start lines place fault has) in
    (there, back)
