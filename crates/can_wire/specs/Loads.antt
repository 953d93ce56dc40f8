use Rattle.std.specs.Prelude.{◌<◌, ◌≤◌, ℕ, ◌+◌, ◌-◌, ◌*◌, ◌/◌, ◌%◌, ◌^◌, ◌==◌}
use Rattle.std.specs.Prelude.{nat_lt, min, max, if◌then◌else◌, List, [], ◌∷◌}

-- How busy a wire is (own choice): it is busy from the start of a frame until the next attempt may begin. A fully
-- loaded wire is busy all the time, and a wire without a waiting frame is idle.

-- an attempt: the nanosecond at which it took the wire, and the nanosecond at which the next attempt could begin
pub record Taken : Type 0 where
  pub begin : ℕ
  pub end : ℕ

-- for how many nanoseconds of a second the attempt took the wire
abbrev pub taken_in : ℕ → Taken → ℕ
taken_in second t = min t.end ((second + 1) * 10 ^ 9) - max t.begin (second * 10 ^ 9)

-- for how many nanoseconds of a second these attempts took the wire, newest attempt first
abbrev pub busy_in : ℕ → List Taken → ℕ
busy_in second [] = 0
busy_in second (t ∷ past) = taken_in second t + busy_in second past

-- for how many nanoseconds these attempts took the wire in total
abbrev pub busy : List Taken → ℕ
busy [] = 0
busy (t ∷ past) = (t.end - t.begin) + busy past

-- when the newest of these attempts ended
abbrev pub over_at : List Taken → ℕ
over_at [] = 0
over_at (t ∷ past) = t.end

-- each attempt begins when the one before it has ended, or later, and takes less than a second
abbrev pub AreInOrder : List Taken → Type 0
AreInOrder [] = Unit {0}
AreInOrder (t ∷ past) = (over_at past ≤ t.begin) × (t.begin ≤ t.end) × (t.end < t.begin + 10 ^ 9) × AreInOrder past

-- the stored load: the second in which the last attempt ended; the busy nanoseconds in that second, in the second
-- before it, and in the one before that; and the total
pub record Load : Type 0 where
  pub second : ℕ
  pub latest : ℕ
  pub before : ℕ
  pub earlier : ℕ
  pub total : ℕ

-- the second of a load is below 2^34, as for every moment, and no second has more than 10^9 busy nanoseconds
abbrev pub IsLoad : Load → Type 0
IsLoad l = (l.second < 2 ^ 34) × (l.latest ≤ 10 ^ 9) × (l.before ≤ 10 ^ 9) × (l.earlier ≤ 10 ^ 9)

-- the load before the first attempt
abbrev pub no_load : Load
no_load = record { second = 0; latest = 0; before = 0; earlier = 0; total = 0 }

-- the load moved on by this many seconds, to this second: the stored seconds become older
abbrev pub moved_by : ℕ → ℕ → Load → Load
moved_by gap second l =
    if gap == 0 then l else
    if gap == 1 then record { second = second; latest = 0; before = l.latest; earlier = l.before; total = l.total } else
    if gap == 2 then record { second = second; latest = 0; before = 0; earlier = l.latest; total = l.total } else
    record { second = second; latest = 0; before = 0; earlier = 0; total = l.total }

-- the load moved on to this second, which is not before the last one
abbrev pub moved_to : ℕ → Load → Load
moved_to second l = moved_by (second - l.second) second l

-- the sum of two numbers of busy nanoseconds in a second, at most 10^9
abbrev pub more : ℕ → ℕ → ℕ
more nanos others = min (nanos + others) (10 ^ 9)

-- the load with this many busy nanoseconds added to its last second
abbrev pub more_of : ℕ → Load → Load
more_of nanos l = record l { latest = more l.latest nanos; total = min (l.total + nanos) (2 ^ 64 - 1) }

-- the load with this many busy nanoseconds added to a second that is not before its last one
abbrev pub added : ℕ → ℕ → Load → Load
added second nanos l = more_of nanos (moved_to second l)

-- the start of the second in which a nanosecond lies
abbrev pub boundary : ℕ → ℕ
boundary nano = nano / 10 ^ 9 * 10 ^ 9

-- the load after an attempt that takes the wire from `begin` to `end`: the time after the boundary between two seconds
-- counts for the second one
abbrev pub noted : ℕ → ℕ → Load → Load
noted begin end l =
    if nat_lt begin (boundary end)
    then added (end / 10 ^ 9) (end - boundary end) (added (begin / 10 ^ 9) (boundary end - begin) l)
    else added (end / 10 ^ 9) (end - begin) l

-- the load after these attempts
abbrev pub load_of : List Taken → Load
load_of [] = no_load
load_of (t ∷ past) = noted t.begin t.end (load_of past)

-- the load that is reported: the second in which the last attempt ended, and the busy thousandths of that second, of
-- the second before it, and of the one before that
pub record Recent : Type 0 where
  pub second : ℕ
  pub latest : ℕ
  pub before : ℕ
  pub earlier : ℕ

-- the load of the last three seconds in thousandths
abbrev pub recent_of : Load → Recent
recent_of l = record {
  second = l.second;
  latest = l.latest / 10 ^ 6;
  before = l.before / 10 ^ 6;
  earlier = l.earlier / 10 ^ 6;
}

-- the load that is packed in a word: a second in 34 bits, and three numbers of thousandths in 10 bits each
abbrev pub recent_in : ℕ → Recent
recent_in word = record {
  second = word / 2 ^ 30;
  latest = word / 2 ^ 20 % 2 ^ 10;
  before = word / 2 ^ 10 % 2 ^ 10;
  earlier = word % 2 ^ 10;
}

-- the busy thousandths of the last whole second before a moment: 0 if that second is after the known ones, since
-- nothing took the wire since, or before them
abbrev pub permille_at : ℕ → Recent → ℕ
permille_at now r =
    if now / 10 ^ 6 == r.second + 1 then r.latest else
    if now / 10 ^ 6 == r.second then r.before else
    if now / 10 ^ 6 + 1 == r.second then r.earlier else 0
