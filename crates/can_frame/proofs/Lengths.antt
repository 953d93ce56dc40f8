use Rattle.std.proofs.Common.{◌≤◌, ◌<◌, ◌/◌, ◌^◌, ℕ, length, arith}
use Rattle.std.specs.Fmt.{decimal}
use Rattle.std.proofs.lemmas.Fmt.{length-decimal-le}

-- The lengths of numbers in decimal.

pub count_fits : (n : ℕ) → n < 2 ^ 64 → length (decimal n) ≤ 20
count_fits n h = length-decimal-le 20 n (omega arith) (omega (arith, h)) h

pub seconds_fit : (m : ℕ) → m < 10 ^ 16 → length (decimal (m / 1000000)) ≤ 10
seconds_fit m h = length-decimal-le 10 (m / 1000000) (omega arith) (omega (arith, h)) (omega (arith, h))
