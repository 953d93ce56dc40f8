use Rattle.std.proofs.Common.{refl, sym, ap, ◌∙◌, arith}
use Rattle.can_fault.specs.declared.verdict.Verdict.{Verdict}
use Rattle.can_attempt.specs.Attempts.{attempt_between, judged}
use Rattle.can_attempt.proofs.Calm.{judged_calm}
use Rattle.can_attempt.proofs.judging.judge_fault_free.Goals as goal

pub returns : goal.returns
returns c v a calm =
    judged_calm c.args.nodes.now c.args.winner calm.zeros a _ calm.acknowledged c.requires.count (omega arith) refl c.others.ensures c.empty.ensures refl c.empty-2.ensures
    ∙ ap (λ (u : Verdict). judged (attempt_between c.args.nodes.now c.args.winner u a)) (sym calm.good)
