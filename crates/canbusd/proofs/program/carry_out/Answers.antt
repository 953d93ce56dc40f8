use Rattle.std.proofs.Common.{IsOk, rules, subst}
use Rattle.canbusd.proofs.Outcomes.{done-kept}
use Rattle.canbusd.proofs.program.carry_out.Goals as goal
use Rattle.canbusd.proofs.program.carry_out.Goals.{in-Ok-true, in-Err}

pub returns-then-status-eq-DONE-clause-done : goal.returns-then-status-eq-DONE-clause-done
returns-then-status-eq-DONE-clause-done g c = λ zero. done-kept _ _ _ _ _ _
    (elim c.match-do_job.branch [
      | in-Ok-true w ↦ w.in-Ok-true.ensures (search rules)
      | in-Err w ↦ absurd (cc (subst (λ o. IsOk o) w.outcome-is (c.finish-status.ensures.done zero)))
    ])
    c.finish-status.ensures.kept
