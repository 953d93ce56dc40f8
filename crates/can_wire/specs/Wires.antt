use Rattle.std.specs.Prelude.{ℕ, ◌+◌, ◌-◌, ◌*◌, ◌/◌, ◌^◌, min, max, nat_lt, Bool}
use Rattle.can_wire.specs.Timings.{BusTiming}

-- When attempts take place on a bus that has bit rates, on a bench and in a server alike (own choice).

-- a wire: the timing of its bits, and the nanosecond from which it is free
pub record Wire : Type 0 where
  pub timing : BusTiming
  pub free : ℕ

-- a wire before its first frame
abbrev pub unused : BusTiming → Wire
unused t = record { timing = t; free = 0 }

-- the time this many nanoseconds later, but no later than the last moment
abbrev pub later : ℕ → ℕ → ℕ
later start nanos = min (start + nanos) (10 ^ 19 - 1)

-- the moment of a nanosecond: the microsecond in which it lies
abbrev pub moment_of : ℕ → ℕ
moment_of nanos = nanos / 1000

-- when the next attempt begins if this moment is set: at the moment, or when the wire is free if that is later
abbrev pub begin_of : ℕ → Wire → ℕ
begin_of moment w = max (moment * 1000) w.free

-- whether the next attempt begins before this other moment
abbrev pub is_before : ℕ → Wire → ℕ → Bool
is_before set w moment = nat_lt (begin_of set w) (moment * 1000)

-- the moment this many nanoseconds after the next attempt begins
abbrev pub moment_after : ℕ → ℕ → Wire → ℕ
moment_after moment nanos w = moment_of (later (begin_of moment w) nanos)

-- the wire after an attempt that takes this many nanoseconds
abbrev pub taken_for : ℕ → ℕ → Wire → Wire
taken_for moment nanos w = record w { free = later (begin_of moment w) nanos }
