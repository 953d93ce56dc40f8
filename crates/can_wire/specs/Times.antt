use Rattle.std.specs.Prelude.{ℕ, ◌+◌, ◌-◌, ◌*◌, ◌/◌, ◌≤◌}
use Rattle.can_wire.specs.declared.wire_bits.WireBits.{WireBits}

-- Times of bits at bit rates.

-- the bit rates of a bus, in bits a second: the nominal bit rate, and the bit rate in the data phase of FD frames with
-- BRS
pub record BitRates : Type 0 where
  pub nominal : ℕ
  pub fast : ℕ

-- the bit rates with this nominal bit rate and this data bit rate
abbrev pub rates_of : ℕ → ℕ → BitRates
rates_of nominal fast = record { nominal = nominal; fast = fast }

-- bit rates that a bus may have (own choice): a nominal bit rate of 5,000 to 1,000,000 bit/s, and a data bit rate that
-- is at least as high and at most 20,000,000 bit/s
pub record AreBitRates (rates : BitRates) : Type 0 where
  pub least : 5000 ≤ rates.nominal
  pub most : rates.nominal ≤ 1000000
  pub no_slower : rates.nominal ≤ rates.fast
  pub most_fast : rates.fast ≤ 20000000

-- a fraction, rounded up
abbrev pub rounded_up : ℕ → ℕ → ℕ
rounded_up a b = (a + (b - 1)) / b

-- the nanoseconds that bits take, as the numerator of one fraction: (nominal / nominal rate + fast / fast rate) times
-- 10^9
abbrev pub billionths : WireBits → BitRates → ℕ
billionths bits rates = (bits.nominal * rates.fast + bits.fast * rates.nominal) * 1000000000

-- the nanoseconds that bits take, rounded up
abbrev pub nanos_of : WireBits → BitRates → ℕ
nanos_of bits rates = rounded_up (billionths bits rates) (rates.nominal * rates.fast)
