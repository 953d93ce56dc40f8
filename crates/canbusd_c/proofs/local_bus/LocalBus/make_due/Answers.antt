use Rattle.std.proofs.Common.{◌≡◌, suc, true, Result, sym, subst, ◌∙◌}
use Rattle.can_event.specs.declared.refusal.Refusal.{Refusal}
use Rattle.can_event.specs.declared.attempt.Attempt.{Attempt}
use Rattle.canbusd_c.specs.Locals.{is_local_due, IsLocalTry}
use Rattle.canbusd_c.proofs.Runs.{err_of, ok_of}
use Rattle.canbusd_c.proofs.local_bus.LocalBus.make_due.Goals as goal

pub loop-moment-preserved : goal.loop-moment-preserved
loop-moment-preserved c =
    let b = c.loop-moment.self in
    let due : is_local_due c.args.moment b ≡ true = sym c.is_due.ensures ∙ c.loop-moment-test.true in
    let ok = ok_of c.attempt-outcome.result (sym c.is_err.ensures.value ∙ c.if-is_err.false) in
    let one = subst (λ (o : Result Attempt Refusal). IsLocalTry b o c.attempt-outcome.new.self) ok.1 c.attempt-outcome.ensures in
    (suc c.loop-moment.invariant.0, (b, ok.0, c.loop-moment.invariant.1, due, one))

pub returns-then-is_err : goal.returns-then-is_err
returns-then-is_err c =
    let b = c.loop-moment.self in
    let due : is_local_due c.args.moment b ≡ true = sym c.is_due.ensures ∙ c.loop-moment-test.true in
    let err = err_of c.attempt-outcome.result (sym c.is_err.ensures.value ∙ c.if-is_err.true) in
    let none = subst (λ (o : Result Attempt Refusal). IsLocalTry b o c.attempt-outcome.new.self) err.1 c.attempt-outcome.ensures in
    (c.loop-moment.invariant.0, b, err.0, c.loop-moment.invariant.1, due, none)
