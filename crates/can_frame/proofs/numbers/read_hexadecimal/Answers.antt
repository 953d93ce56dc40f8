use Rattle.std.proofs.Common.{◌≤◌, ◌<◌, ◌^◌, ℕ, zero, arith, lit<}
use Rattle.std.proofs.Math.Nat.{pow-le-pow_right}
use Rattle.can_frame.proofs.numbers.read_hexadecimal.Goals as goal

eight : (most : ℕ) → most ≤ 8 → 16 ^ most ≤ 2 ^ 32
eight most le = let pos : zero < 16 = lit< tt in pow-le-pow_right {n = 16} pos le

pub read_number-requires-clause-fits : goal.read_number-requires-clause-fits
read_number-requires-clause-fits c = let fits = eight c.args.most c.requires in omega (arith, fits)

pub overflow_cast-result : goal.overflow_cast-result
overflow_cast-result c = let fits = eight c.args.most c.requires in let small = c.in_ok-number.ensures.small in omega (arith, fits, small)
