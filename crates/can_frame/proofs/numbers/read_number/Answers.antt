use Rattle.std.proofs.Common.{◌≤◌, ◌<◌, ◌^◌, ◌+◌, ◌*◌, ℕ, zero, suc, arith}
use Rattle.std.proofs.Math.Nat.{pow-le-pow_right, mul-le-mul_right, pow-suc, suc-mul}
use Rattle.can_frame.proofs.numbers.read_number.Goals as goal

-- fewer digits make a smaller number
below : (base n i j : ℕ) → 2 ≤ base → n < base ^ i → i ≤ j → n < base ^ j
below base n i j low h le =
    let pos : zero < base = omega (arith, low) in
    let p : base ^ i ≤ base ^ j = pow-le-pow_right {n = base} pos le in
    omega (arith, p, h)

-- one digit more still fits
next : (base n v i most limit : ℕ) → 2 ≤ base → n < base ^ i → v < base → i < most → base ^ most ≤ limit → n * base + v < limit
next base n v i most limit low h small lt fits =
    let pos : zero < base = omega (arith, low) in
    let p : base ^ suc i ≤ base ^ most = pow-le-pow_right {n = base} pos (omega (arith, lt)) in
    let m : suc n * base ≤ base ^ i * base = mul-le-mul_right base (omega (arith, h)) in
    omega (arith, p, rw suc-mul at m, pow-suc base i, fits, small)

pub overflow_mul-number : goal.overflow_mul-number
overflow_mul-number g c =
    let small = next g.row.BASE c.loop-byte.number 0 c.loop-byte.byte-index c.args.most (2 ^ 64) c.requires.low c.loop-byte.invariant.small (omega (arith, c.requires.low)) (omega arith) c.requires.fits in
    omega (arith, small)

pub overflow_add-number : goal.overflow_add-number
overflow_add-number g c =
    let small = next g.row.BASE c.loop-byte.number c.in_ok-number.field-0 c.loop-byte.byte-index c.args.most (2 ^ 64) c.requires.low c.loop-byte.invariant.small c.in_ok-number.ensures.below (omega arith) c.requires.fits in
    omega (arith, small)

pub returns-clause-small : goal.returns-clause-small
returns-clause-small g c = below g.row.BASE c.loop-byte.number c.loop-byte.byte-index c.args.most c.requires.low c.loop-byte.invariant.small (omega arith)
