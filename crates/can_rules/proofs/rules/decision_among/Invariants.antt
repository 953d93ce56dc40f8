use Rattle.can_rules.specs.Rules.{won_by}
use Rattle.can_rules.proofs.Turns.{AreLookedAt}
use Rattle.can_rules.proofs.rules.decision_among.Given as goal

abbrev pub invariant-loop-rule : goal.invariant-loop-rule
invariant-loop-rule l = AreLookedAt l.initial.rules l.rules l.rule-index (won_by l.winner l.word)
