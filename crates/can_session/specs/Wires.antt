use Rattle.std.specs.Prelude.{ℕ, ◌/◌, Bool, false, Option, Some, None, if◌then◌else◌}
use Rattle.std.specs.Option.{option_map}
use Rattle.can_frame.specs.Frames.{CanFrame}
use Rattle.can_fault.specs.declared.verdict.Verdict.{Verdict}
use Rattle.can_event.specs.declared.attempt.Attempt.{Attempt}
use Rattle.can_event.specs.declared.attempt.Attempt.TheVariants as attempt
use Rattle.can_wire.specs.Loads.{recent_of, permille_at}
use Rattle.can_proto.specs.Spelling.{no_bus_load}
use Rattle.can_proto.specs.declared.answer.BusLoad.{BusLoad}
use Rattle.can_wire.specs.Schedules.{next_moment, begin_moment, after_tried, after_idle, after_no_time}
use Rattle.can_wire.specs.Wires.{moment_of, is_before}
pub use Rattle.can_wire.specs.Schedules.{Schedule, nothing_yet}

-- The time of attempts on a bench whose bus has bit rates (own choice; can_wire defines how long frames and attempts
-- last, and when they begin and end on a schedule).

-- the schedule after this moment is set: the next attempt begins at this moment, or when the wire becomes free if that
-- is later
abbrev pub set_to : ℕ → Schedule → Schedule
set_to moment s = record s { since = moment }

-- the moment of the next attempt: the end of the frame that it tries. An attempt without a frame has the moment of its
-- end if an interface waits for its restart, and otherwise the moment of its beginning.
abbrev pub moment_on : Bool → Option (ℕ × CanFrame) → Schedule → ℕ
moment_on waits None s = if waits then next_moment None s else begin_moment s
moment_on waits (Some (iface, frame)) s = next_moment (Some frame) s

-- the moment of the next attempt if the current moment is this one; without bit rates it is the current moment
abbrev pub attempt_moment : ℕ → Bool → Option (ℕ × CanFrame) → Option Schedule → ℕ
attempt_moment moment waits head None = moment
attempt_moment moment waits head (Some s) = moment_on waits head (set_to moment s)

-- the schedule after an attempt with this verdict. An attempt without a frame takes 11 bit times if an interface waited
-- for its restart, and otherwise no time.
abbrev pub schedule_after : Bool → Verdict → Attempt → Schedule → Schedule
schedule_after waits v (attempt.Tried t) s = after_tried t.frame t.class v s
schedule_after waits v (attempt.Idle restarted) s = if waits then after_idle s else after_no_time s

-- the frame that an attempt tried, and its interface
abbrev pub tried_in : Attempt → Option (ℕ × CanFrame)
tried_in (attempt.Tried t) = Some (t.winner, t.frame)
tried_in (attempt.Idle restarted) = None

-- the schedule after an attempt, if the bus has a schedule; this moment was set before the attempt
abbrev pub schedule_left : ℕ → Bool → Verdict → Attempt → Option Schedule → Option Schedule
schedule_left moment waits v a schedule = option_map (λ s. schedule_after waits v a (set_to moment s)) schedule

-- the moment at which the wire of a schedule becomes free
abbrev pub free_at : Schedule → ℕ
free_at s = moment_of s.wire.free

-- the moment that is set after an attempt: the moment at which the wire becomes free
abbrev pub moment_left : ℕ → Option Schedule → ℕ
moment_left moment None = moment
moment_left moment (Some s) = free_at s

-- whether an attempt would begin before `moment` if the current moment is `set`
abbrev pub begins_before : ℕ → ℕ → Option Schedule → Bool
begins_before set moment None = false
begins_before set moment (Some s) = is_before set s.wire moment

-- the load of the wire at a moment, as a session shows it: how much of the last whole second the wire was busy, in
-- thousandths; how long it was busy in total, in microseconds; and the bit rates
abbrev pub shown_at : ℕ → Schedule → BusLoad
shown_at moment s = record {
  permille = permille_at moment (recent_of s.load);
  micros = s.load.total / 1000;
  bitrate = s.wire.timing.rates.nominal;
  dbitrate = s.wire.timing.rates.fast;
}

-- the load of a bus at a moment: all 0 if the bus has no bit rates
abbrev pub load_at : ℕ → Option Schedule → BusLoad
load_at moment None = no_bus_load
load_at moment (Some s) = shown_at moment s
