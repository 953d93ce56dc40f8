use Rattle.std.proofs.Common.{ap, is_some, arith}
use Rattle.can_rules.specs.Rules.{won_by}
use Rattle.can_rules.proofs.Turns.{looked_on, looked_end}
use Rattle.can_rules.proofs.rules.decision_among.Goals as goal

pub returns-in-Some-clause-counts : goal.returns-in-Some-clause-counts
returns-in-Some-clause-counts c =
    (looked_end c.args.rules.now c.loop-rule.rules c.loop-rule.rule-index (won_by c.args.winner c.args.word) _ c.in-Some.verdict c.ask.new.self
    c.loop-rule.invariant (omega arith) c.in-Some.ensures.verdict c.in-Some.ensures.counts).1

pub loop-rule-preserved : goal.loop-rule-preserved
loop-rule-preserved c =
    looked_on c.args.rules.now c.loop-rule.rules c.loop-rule.rule-index (won_by c.args.winner c.args.word) _ c.ask.result c.ask.new.self
    c.loop-rule.invariant (omega arith) c.ask.ensures.verdict c.ask.ensures.counts (ap is_some c.in_default.is)
