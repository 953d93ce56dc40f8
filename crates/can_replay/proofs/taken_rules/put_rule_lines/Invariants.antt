use Rattle.std.proofs.Common.{◌≡◌, ◌++◌, drop}
use Rattle.std.specs.List.{flat_map}
use Rattle.can_replay.specs.TakenRules.{rule_line}
use Rattle.can_replay.proofs.taken_rules.put_rule_lines.Given as goal

abbrev pub invariant-loop-rule : goal.invariant-loop-rule
invariant-loop-rule l =
    l.out.items ++ flat_map (rule_line l.names) (drop l.rule-index l.rules)
    ≡ l.fn.out.items ++ flat_map (rule_line l.names) l.rules
