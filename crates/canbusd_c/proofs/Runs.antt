use Rattle.std.proofs.Common.{◌≡◌, ℕ, zero, suc, ◌+◌, Bool, true, false, Ok, Err, Result, length, refl, sym, ap, subst, ◌∙◌, arith}
use Rattle.std.specs.Result.{is_err}
use lib.Dec.{T}
use Rattle.can_fault.specs.declared.verdict.Verdict.{Verdict}
use Rattle.can_fault.specs.declared.verdict.Verdict.TheVariants.{Good}
use Rattle.can_event.specs.declared.event.Event.TheVariants as event
use Rattle.can_event.specs.declared.reply.Reply.TheVariants as reply
use Rattle.can_event.specs.declared.refusal.Refusal.{Refusal}
use Rattle.can_event.specs.declared.attempt.Attempt.{Attempt}
use Rattle.can_bus.specs.Answer.{Answers}
use Rattle.can_session.specs.BusSteps.{waits_in_time, verdict_on, plan_left}
use Rattle.canbusd_c.specs.Locals.{Local, IsLocalEvent, IsLocalTry, AreLocalTries, next_local_moment, local_passed, local_with_journal, local_with_plan}

-- the steps of an attempt: the state before it, the event, and the time that it takes
pub tried_by : (b one two after : Local) (waits : Bool) (moment : ℕ) (v : Verdict) (outcome : Result Attempt Refusal)
    → waits ≡ waits_in_time b.bus → moment ≡ next_local_moment waits b → v ≡ verdict_on b.bus Good
    → one ≡ local_with_plan b (plan_left b.bus Good) → IsLocalEvent reply.Attempted one (event.Attempt moment v) outcome two
    → after ≡ local_passed waits v outcome two → IsLocalTry b outcome after
tried_by b one two after waits moment v outcome waits_is moment_is v_is one_is told after_is =
    let at : moment ≡ next_local_moment (waits_in_time b.bus) b = moment_is ∙ ap (λ (w : Bool). next_local_moment w b) waits_is in
    let two_is : two ≡ local_with_journal (local_with_plan b (plan_left b.bus Good)) two.bus.journal =
    told.1 ∙ ap (λ (o : Local). local_with_journal o two.bus.journal) one_is in
    record {
      journal = two.bus.journal;
      answers = subst (λ (x : Local × ℕ × Verdict). Answers reply.Attempted x.0.bus.journal (event.Attempt x.1 x.2) outcome two.bus.journal)
          (λ i. (one_is i, at i, v_is i)) told.0;
      after_is = after_is ∙ (λ i. local_passed (waits_is i) (v_is i) outcome (two_is i));
    }

-- a successful attempt adds one entry
pub adds_one : (b after : Local) (one : Attempt) → IsLocalTry b (Ok one) after
    → length after.bus.journal.history ≡ suc (length b.bus.journal.history)
adds_one b after one tried =
    ap (λ (l : Local). length l.bus.journal.history) tried.after_is ∙ ap (λ j. length j.history) tried.answers.new_is

-- `n` successful attempts add `n` entries
pub adds : (moment n : ℕ) (b after : Local) → AreLocalTries moment n b after
    → length after.bus.journal.history ≡ length b.bus.journal.history + n
adds moment zero b after same = let e = ap (λ (l : Local). length l.bus.journal.history) same in omega (arith, e)
adds moment (suc n) b after (mid, one, before, due, tried) =
    let e = adds_one mid after one tried in let f = adds moment n b mid before in omega (arith, e, f)

-- a result for which `is_err` is true contains an error, and any other result contains a value
pub err_of : {A E : Type 0} (o : Result A E) → is_err o ≡ true → (why : E) × (o ≡ Err why)
err_of (Ok a) e = absurd (subst (λ (b : Bool). T b) (sym e) tt)
err_of (Err why) e = (why, refl)

pub ok_of : {A E : Type 0} (o : Result A E) → is_err o ≡ false → (a : A) × (o ≡ Ok a)
ok_of (Ok a) e = (a, refl)
ok_of (Err why) e = absurd (subst (λ (b : Bool). T b) e tt)
