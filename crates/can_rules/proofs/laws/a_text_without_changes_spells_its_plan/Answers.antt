use Rattle.can_rules.proofs.Running.{text-none}
use Rattle.can_rules.proofs.laws.a_text_without_changes_spells_its_plan.Goals as goal

pub returns : goal.returns
returns c = text-none
