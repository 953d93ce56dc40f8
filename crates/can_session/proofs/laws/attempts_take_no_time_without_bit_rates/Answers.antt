use Rattle.std.proofs.Common.{◌≡◌, ◌&&◌, ◌||◌, Bool, Option, None, is_some, Result, Ok, Err, refl, sym, ap, ◌∙◌}
use Rattle.can_fault.specs.declared.verdict.Verdict.{Verdict}
use Rattle.can_event.specs.declared.attempt.Attempt.{Attempt}
use Rattle.can_event.specs.declared.refusal.Refusal.{Refusal}
use Rattle.can_session.specs.BusSteps.{head_on, waits_in_time}
use Rattle.can_session.specs.Wires.{Schedule, attempt_moment, schedule_left, moment_left, begins_before}
use Rattle.can_session.specs.Benches.{BenchState, passed, said_moment}
use Rattle.can_session.proofs.laws.attempts_take_no_time_without_bit_rates.Goals as goal

pub returns-clause-moment : goal.returns-clause-moment
returns-clause-moment c = λ b none. ap (attempt_moment b.moment (waits_in_time b.bus) (head_on b.bus)) none

pub returns-clause-said : goal.returns-clause-said
returns-clause-said c = λ b moment none. ap (λ (s : Option Schedule). said_moment s moment) none

same : (waits : Bool) (b : BenchState) (v : Verdict) (outcome : Result Attempt Refusal) → b.bus.schedule ≡ None → passed waits v outcome b ≡ b
same waits b v (Err why) none = refl
same waits b v (Ok a) none =
    ap (λ (s : Option Schedule). record b { moment = moment_left b.moment (schedule_left b.moment waits v a s); bus = record b.bus { schedule = schedule_left b.moment waits v a s } }) none
    ∙ ap (λ (s : Option Schedule). record b { bus = record b.bus { schedule = s } }) (sym none)

pub returns-clause-passed : goal.returns-clause-passed
returns-clause-passed c = same

pub returns-clause-due : goal.returns-clause-due
returns-clause-due c = λ b moment none. ap (λ (s : Option Schedule). begins_before b.moment moment s && (is_some (head_on b.bus) || waits_in_time b.bus)) none
