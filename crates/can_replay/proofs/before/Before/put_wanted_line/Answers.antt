use Rattle.std.proofs.Common.{ℕ, Option, ◌++◌, ◌∷◌, ◌∙◌, [], ap, codes}
use Rattle.can_replay.specs.EventsText.{parts_of, rule_part, rules_before, unended, wire_part, with_parts}
use Rattle.can_replay.specs.Words.{numbered}
use Rattle.can_replay.proofs.Lists.{five}
use Rattle.can_replay.proofs.before.Before.put_wanted_line.Goals as goal

pub returns-clause-line : goal.returns-clause-line
unfolding with_parts
returns-clause-line c past seen after step =
    let w = c.args.wanted.now in
    let entry = c.args.entry.now in
    let parts = parts_of c.args.bus.now.config past entry in
    five c.args.out.now.items c.put_rules.new.out.items c.put_front.new.out.items c.put_wire.new.out.items c.put_rule.new.out.items _ (rules_before w.faults entry) (unended c.args.line.now) parts (wire_part w.timing entry)
    (rule_part w.faults entry) (10 ∷ []) c.in_ok-rule.ensures.lines (c.in_ok-put_front.ensures past entry seen after step) c.in_ok-put_wire.ensures
    (c.in_ok-put_rule.ensures ∙ ap (λ (o : Option ℕ). c.put_wire.new.out.items ++ numbered (codes "rule") o) c.in_ok-rule.ensures.rule)
    c.in_ok-extend_from_slice.ensures.items
