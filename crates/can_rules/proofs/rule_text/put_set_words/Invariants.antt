use Rattle.std.proofs.Common.{◌≡◌, ◌++◌, drop}
use Rattle.can_rules.specs.RuleText.{names_after_mark, members}
use Rattle.can_rules.proofs.rule_text.put_set_words.Given as goal

abbrev pub invariant-loop-number : goal.invariant-loop-number
invariant-loop-number l =
    l.out.items ++ names_after_mark l.mark (members l.number (drop l.number l.names) l.set)
    ≡ l.fn.out.items ++ (l.words ++ names_after_mark 32 (members 0 l.names l.set))
