use Rattle.std.specs.Prelude.{◌≡◌, ◌-◌, ◌*◌, ◌<◌, ◌≤◌, ℕ, zero, suc, true, false}
use Rattle.std.specs.Prelude.{nat_le, if◌then◌else◌, Option, Some, None, Ok, Err}
use Rattle.can_frame.specs.Frames.{CanFrame}
use Rattle.can_fault.specs.declared.verdict.Verdict.{Verdict}
use Rattle.can_event.specs.declared.attempt.Attempt.{Attempt}
use Rattle.can_event.specs.declared.attempt.Attempt.TheVariants as attempt
use Rattle.can_fault.specs.Sources.{VerdictMap}
use Rattle.can_station.specs.Held.{Held}
use Rattle.can_station.specs.Passes.{PassSeen, MadeStep, next_try, next_verdict}
use Rattle.can_station.specs.Waits.{has_work}
use Rattle.can_station.specs.declared.refusals.StationRefusal.{StationRefusal}
use Rattle.can_server.specs.declared.driving.Stepped.{Stepped}
use Rattle.can_server.specs.declared.driving.Stepped.TheVariants as stepped
use Rattle.can_wire.specs.Schedules.{Schedule, next_begin, next_moment, after_tried, after_idle}

-- The schedule of a driver on a bus with bit rates (own choice).

-- the time of the next attempt, which tries the given frame if there is one
abbrev pub head_moment : Schedule → Option (ℕ × CanFrame) → ℕ
head_moment s None = next_moment None s
head_moment s (Some head) = next_moment (Some head.1) s

-- the schedule after an attempt with this verdict and outcome
abbrev pub after_attempt : Verdict → Attempt → Schedule → Schedule
after_attempt v (attempt.Tried t) s = after_tried t.frame t.class v s
after_attempt v (attempt.Idle restarted) s = after_idle s

-- an attempt follows a schedule: the time of the attempt is the time at which its frame ends. The schedule advances by
-- the length of the attempt, which depends on the class and the verdict of the attempt.
abbrev pub GoesBy : Schedule → Verdict → Attempt → Schedule → Type 0
GoesBy old v (attempt.Tried t) new =
    (t.moment ≡ next_moment (Some t.frame) old) × (new ≡ after_tried t.frame t.class v old)
GoesBy old v (attempt.Idle restarted) new = new ≡ after_idle old

-- the schedule of a driver at this time; if the next attempt is more than 100 ms late, it begins at this time
abbrev pub caught_up : ℕ → Schedule → Schedule
caught_up now s = if nat_le (now * 1000 - next_begin s) 100000000 then s else record s { since = now }

-- the state of a driver: the state that the lock protects, the driver's pass and its schedule
pub record Driven (F : Type 0) : Type 0 where
  pub held : Held F
  pub pass : PassSeen
  pub schedule : Schedule

-- the scheduled time of the next attempt
abbrev pub moment_for : {F : Type 0} → Driven F → ℕ
moment_for d = head_moment d.schedule (next_try d.held.journal)

-- if there is a frame to send or a restart to wait for, the driver makes an attempt at the scheduled time, and the
-- schedule advances
abbrev pub Makes : {F : Type 0} → (F → VerdictMap) → Driven F → Driven F → Type 0
Makes verdicts old new =
    (a : Attempt)
    × (has_work old.held.journal ≡ true)
    × MadeStep verdicts old.held old.pass (moment_for old) (Ok a) new.held new.pass
    × GoesBy old.schedule (next_verdict verdicts old.held) a new.schedule

-- the station refuses an attempt at the scheduled time, and the schedule does not change
abbrev pub IsAttemptRefused : {F : Type 0} → (F → VerdictMap) → Driven F → Driven F → Type 0
IsAttemptRefused verdicts old new =
    (why : StationRefusal) × MadeStep verdicts old.held old.pass (moment_for old) (Err why) new.held new.pass
    × (new.schedule ≡ old.schedule)

-- the driver makes this many attempts, one after another
abbrev pub MakesAll : {F : Type 0} → (F → VerdictMap) → ℕ → Driven F → Driven F → Type 0
MakesAll verdicts zero old new = new ≡ old
MakesAll {F} verdicts (suc n) old new = (mid : Driven F) × MakesAll verdicts n old mid × Makes verdicts mid new

-- while it holds the lock once, the driver makes up to 64 attempts, and at least one if there is a frame to send or a
-- restart to wait for; or the station refuses the next attempt
abbrev pub MakesDue : {F : Type 0} → (F → VerdictMap) → Stepped → Driven F → Driven F → Type 0
MakesDue {F} verdicts stepped.Refused old new =
    (n : ℕ) × (mid : Driven F) × (n < 64) × MakesAll verdicts n old mid × IsAttemptRefused verdicts mid new
MakesDue verdicts _ old new =
    (n : ℕ) × (n ≤ 64) × MakesAll verdicts n old new × (n ≡ 0 → has_work old.held.journal ≡ false)
