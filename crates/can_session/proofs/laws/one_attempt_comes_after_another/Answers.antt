use Rattle.std.proofs.Common.{◌≡◌, ℕ, ◌≤◌, ◌-◌, ◌*◌, ◌<◌, ◌^◌, Bool, true, false, Option, Some, None, max, refl, arith}
use Rattle.std.proofs.Math.Nat.{le-max_left, le-max_right, max-le, le-min}
use Rattle.can_frame.specs.Frames.{CanFrame}
use Rattle.can_fault.specs.declared.verdict.Verdict.{Verdict}
use Rattle.can_event.specs.declared.attempt.Attempt.{Attempt}
use Rattle.can_event.specs.declared.attempt.Attempt.TheVariants as attempt
use Rattle.can_wire.specs.Wires.{begin_of, later, moment_after}
use Rattle.can_wire.specs.Schedules.{next_begin, next_lasts}
use Rattle.can_session.specs.Wires.{Schedule, moment_on, schedule_after, tried_in}
use Rattle.can_session.proofs.laws.one_attempt_comes_after_another.Goals as goal

pub returns-clause-begins : goal.returns-clause-begins
returns-clause-begins c = λ s moment. (le-max_left (moment * 1000) s.wire.free, le-max_right (moment * 1000) s.wire.free)

-- the wire becomes free no earlier than the attempt begins, however long the attempt takes
no_earlier : (s : Schedule) (nanos : ℕ) → s.since < 10 ^ 16 → s.wire.free < 10 ^ 19 → next_begin s ≤ later (next_begin s) nanos
no_earlier s nanos early free =
    let within : next_begin s ≤ 10 ^ 19 - 1 = max-le (omega (arith, early)) (omega (arith, free)) in
    le-min (omega arith) within

ends : (s : Schedule) (waits : Bool) (v : Verdict) (a : Attempt) → s.since < 10 ^ 16 → s.wire.free < 10 ^ 19 → next_begin s ≤ (schedule_after waits v a s).wire.free
ends s waits v (attempt.Tried t) early free = no_earlier s _ early free
ends s true v (attempt.Idle restarted) early free = no_earlier s _ early free
ends s false v (attempt.Idle restarted) early free = no_earlier s 0 early free

pub returns-clause-ends : goal.returns-clause-ends
returns-clause-ends c = ends

rises : (s : Schedule) (waits : Bool) (head : Option (ℕ × CanFrame)) → s.last ≤ moment_on waits head s
rises s waits (Some head) = le-max_left s.last (moment_after s.since (next_lasts s.wire.timing (Some head.1)) s.wire)
rises s true None = le-max_left s.last (moment_after s.since (next_lasts s.wire.timing None) s.wire)
rises s false None = le-max_left s.last (moment_after s.since 0 s.wire)

pub returns-clause-rises : goal.returns-clause-rises
returns-clause-rises c = rises

last : (s : Schedule) (waits : Bool) (v : Verdict) (a : Attempt) → (schedule_after waits v a s).last ≡ moment_on waits (tried_in a) s
last s waits v (attempt.Tried t) = refl
last s true v (attempt.Idle restarted) = refl
last s false v (attempt.Idle restarted) = refl

pub returns-clause-last : goal.returns-clause-last
returns-clause-last c = last
