use Rattle.can_rules.proofs.TextLines.{rule-line}
use Rattle.can_rules.proofs.laws.what_spells_a_rule_is_one_line.Goals as goal

pub returns : goal.returns
returns c = rule-line
