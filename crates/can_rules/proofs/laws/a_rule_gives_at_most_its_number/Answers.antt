use Rattle.can_rules.proofs.Counted.{times_given-most}
use Rattle.can_rules.proofs.laws.a_rule_gives_at_most_its_number.Goals as goal

pub returns : goal.returns
returns c = λ rules heads place n rule there left. times_given-most heads rules place n (record { rule = rule; there = there; left = left })
