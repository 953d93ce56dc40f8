use Rattle.std.specs.Prelude.{ℕ, max, Option, Some, None}
use Rattle.can_frame.specs.Frames.{CanFrame}
use Rattle.can_fault.specs.declared.verdict.Verdict.{Verdict}
use Rattle.can_attempt.specs.declared.class.Class.{Class}
use Rattle.can_wire.specs.Timings.{BusTiming, frame_nanos_of, attempt_nanos_of, idle_nanos_of}
use Rattle.can_wire.specs.Wires.{Wire, unused, begin_of, moment_after, taken_for}
use Rattle.can_wire.specs.Loads.{Load, no_load, noted}

-- When attempts take place on a bus that is driven in time, by a server or on a bench (own choice).

-- a schedule: its wire, the moment since which there is something to attempt, the moment of the last attempt (0 at
-- first), and how busy the attempts keep the wire
pub record Schedule : Type 0 where
  pub wire : Wire
  pub since : ℕ
  pub last : ℕ
  pub load : Load

-- the schedule before the first attempt
abbrev pub nothing_yet : BusTiming → Schedule
nothing_yet t = record { wire = unused t; since = 0; last = 0; load = no_load }

-- the nanosecond at which the next attempt begins
abbrev pub next_begin : Schedule → ℕ
next_begin s = begin_of s.since s.wire

-- how long the frame of the next attempt lasts; an attempt without a frame lasts as long as an idle attempt
abbrev pub next_lasts : BusTiming → Option CanFrame → ℕ
next_lasts t None = idle_nanos_of t
next_lasts t (Some frame) = frame_nanos_of t frame

-- the moment of the next attempt: the end of its frame, or the end of the attempt if there is no frame; never before
-- the moment of the last attempt
abbrev pub next_moment : Option CanFrame → Schedule → ℕ
next_moment frame s = max s.last (moment_after s.since (next_lasts s.wire.timing frame) s.wire)

-- the moment of the next attempt if it takes no time: the moment at which it begins; never before the moment of the
-- last attempt
abbrev pub begin_moment : Schedule → ℕ
begin_moment s = max s.last (moment_after s.since 0 s.wire)

-- the schedule after an attempt with this frame that takes the wire for this many nanoseconds
abbrev pub attempted : Option CanFrame → ℕ → Schedule → Schedule
attempted frame nanos s = record {
  wire = taken_for s.since nanos s.wire;
  since = s.since;
  last = next_moment frame s;
  load = s.load;
}

-- the schedule after an attempt with a frame: the wire is busy from its beginning until the next attempt may begin
abbrev pub busied : CanFrame → ℕ → Schedule → Schedule
busied frame nanos s = record (attempted (Some frame) nanos s) {
  load = noted (next_begin s) (taken_for s.since nanos s.wire).free s.load;
}

-- the schedule after an attempt to send a frame
abbrev pub after_tried : CanFrame → Class → Verdict → Schedule → Schedule
after_tried frame class verdict s = busied frame (attempt_nanos_of s.wire.timing frame class verdict) s

-- the schedule after an attempt for which no frame was waiting
abbrev pub after_idle : Schedule → Schedule
after_idle s = attempted None (idle_nanos_of s.wire.timing) s

-- the schedule after an attempt that took no time
abbrev pub after_no_time : Schedule → Schedule
after_no_time s = record s { wire = taken_for s.since 0 s.wire; last = begin_moment s }
