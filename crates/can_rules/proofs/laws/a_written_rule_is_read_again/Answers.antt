use Rattle.can_rules.specs.Plans.{numbered}
use Rattle.can_rules.specs.RuleText.{rule_words}
use Rattle.can_rules.proofs.RuleAgain.{rule-again}
use Rattle.can_rules.proofs.TextLines.{rule-line}
use Rattle.can_rules.proofs.laws.a_written_rule_is_read_again.Goals as goal

pub returns-clause-again : goal.returns-clause-again
returns-clause-again c = rule-again

pub returns-clause-line : goal.returns-clause-line
returns-clause-line c = λ names given rule number are read. rule-line names (rule_words names (numbered number rule)) rule (rule-again names given rule number are read)
