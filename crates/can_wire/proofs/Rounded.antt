use Rattle.std.proofs.Common.{ℕ, ◌+◌, ◌-◌, ◌*◌, ◌^◌, ◌<◌, ◌≤◌, arith}
use Rattle.std.proofs.lemmas.Nat.{mul-le, mod_below, div-add-mod'}
use Rattle.std.proofs.Math.Nat.{div-lt_iff_lt-mul}
use Rattle.can_wire.specs.Times.{BitRates, AreBitRates, rounded_up, billionths, nanos_of}
use Rattle.can_wire.specs.declared.wire_bits.WireBits.{WireBits}

-- Times, rounded up.

rounded : (x k : ℕ) → 0 < k → (x ≤ rounded_up x k * k) × (rounded_up x k * k < x + k)
rounded x k some =
    let whole = div-add-mod' (x + (k - 1)) k in
    let left = mod_below (x + (k - 1)) k some in
    (omega (arith, whole, left, some), omega (arith, whole, left, some))

pub product_pos : (rates : BitRates) → AreBitRates rates → 0 < rates.nominal * rates.fast
product_pos rates good = omega (arith, mul-le 1 1 rates.nominal rates.fast (omega (arith, good.least)) (omega (arith, good.least, good.no_slower)))

pub nanos_rounded : (bits : WireBits) (rates : BitRates) → AreBitRates rates → (billionths bits rates ≤ nanos_of bits rates * (rates.nominal * rates.fast)) × (nanos_of bits rates * (rates.nominal * rates.fast) < billionths bits rates + rates.nominal * rates.fast)
nanos_rounded bits rates good = rounded (billionths bits rates) (rates.nominal * rates.fast) (product_pos rates good)

-- ---- numbers of 32 bits

pub product_below : (a b : ℕ) → a < 2 ^ 32 → b < 2 ^ 32 → a * b < 2 ^ 64
product_below a b h k = omega (arith, mul-le a b 4294967295 4294967295 (omega (arith, h)) (omega (arith, k)))

-- the numerator is below 2^64 products of the rates
few_billionths : (bits : WireBits) (rates : BitRates) → AreBitRates rates → bits.nominal < 2 ^ 32 → bits.fast < 2 ^ 32 → billionths bits rates + (rates.nominal * rates.fast - 1) < 18446744073709551616 * (rates.nominal * rates.fast)
few_billionths bits rates good n f =
    let product : ℕ = rates.nominal * rates.fast in
    let first = mul-le bits.nominal rates.fast 4294967296 rates.fast (omega (arith, n)) (omega arith) in
    let second = mul-le bits.fast rates.nominal 4294967296 rates.nominal (omega (arith, f)) (omega arith) in
    let fast = mul-le 1 rates.fast rates.nominal rates.fast (omega (arith, good.least)) (omega arith) in
    let nominal = mul-le rates.nominal 1 rates.nominal rates.fast (omega arith) (omega (arith, good.least, good.no_slower)) in
    omega (arith, first, second, fast, nominal, product_pos rates good)

pub nanos_below : (bits : WireBits) (rates : BitRates) → AreBitRates rates → bits.nominal < 2 ^ 32 → bits.fast < 2 ^ 32 → nanos_of bits rates < 2 ^ 64
nanos_below bits rates good n f = (div-lt_iff_lt-mul {k = rates.nominal * rates.fast} {x = billionths bits rates + (rates.nominal * rates.fast - 1)} {y = 18446744073709551616} (product_pos rates good)).1 (few_billionths bits rates good n f)
