use Rattle.std.specs.Prelude.{ℕ, ◌^◌, nat_le, if◌then◌else◌}

-- Moments as numbers.

-- The moment at a number of microseconds, or 0 for numbers from 10^16 on.
abbrev pub moment_in : ℕ → ℕ
moment_in micros = if nat_le (10 ^ 16) micros then 0 else micros
