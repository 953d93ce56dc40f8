use Rattle.std.specs.Prelude.{ℕ, Option, Some, None}
use Rattle.can_frame.specs.Frames.{CanFrame}
use Rattle.can_fault.specs.declared.verdict.Verdict.{Verdict}
use Rattle.can_attempt.specs.declared.class.Class.{Class}
use Rattle.can_wire.specs.FrameBits.{frame_bits_of}
use Rattle.can_wire.specs.AttemptBits.{attempt_bits_of}
use Rattle.can_wire.specs.Times.{BitRates, rates_of, nanos_of}

-- How long frames and attempts last on a bus (own choice; their numbers of bits are defined in FrameBits and
-- AttemptBits).

-- the bit rates of a bus
pub record BusTiming : Type 0 where
  pub rates : BitRates

-- a nominal bit rate and a data bit rate, to which FD frames with BRS switch; without a data bit rate all bits are sent
-- at the nominal bit rate
abbrev pub timing_of : ℕ → Option ℕ → BusTiming
timing_of nominal None = record { rates = rates_of nominal nominal }
timing_of nominal (Some fast) = record { rates = rates_of nominal fast }

-- the duration of a frame in nanoseconds, from start of frame to end of frame, rounded up
abbrev pub frame_nanos_of : BusTiming → CanFrame → ℕ
frame_nanos_of t f = nanos_of (frame_bits_of f) t.rates

-- the duration of an attempt in nanoseconds, from start of frame until the next attempt may begin, rounded up
abbrev pub attempt_nanos_of : BusTiming → CanFrame → Class → Verdict → ℕ
attempt_nanos_of t f class v = nanos_of (attempt_bits_of f class v) t.rates

-- the bits of an attempt for which no frame is waiting, which a bus-off interface counts for its restart: 11 recessive
-- bits (Bosch, section 8, rule 12; that an idle attempt has this many bits is own choice)
abbrev pub idle_bits : ℕ
idle_bits = 11

-- the duration of an idle attempt in nanoseconds, rounded up
abbrev pub idle_nanos_of : BusTiming → ℕ
idle_nanos_of t = nanos_of (record { nominal = idle_bits; fast = 0 }) t.rates
