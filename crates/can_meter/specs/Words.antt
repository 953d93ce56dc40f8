use Rattle.std.specs.Prelude.{ℕ, ◌+◌, ◌*◌, ◌/◌, ◌%◌, ◌<◌, ◌≤◌, Bool, nat_eq, if◌then◌else◌}
use Rattle.can_meter.specs.declared.status.Status.{Status}

-- How a word of 64 bits stores a publication. No caller's contract mentions it.

-- a flag as a bit (own choice)
abbrev pub down_bit : Bool → ℕ
down_bit on = if on then 1 else 0

-- the word of a publication, from the lowest bit: 1 bit that is set if the interface is down, 8 bits of receive error
-- count, 9 bits of transmit error count, and the length of the record
abbrev pub status_word : Status → ℕ
status_word p = ((p.at * 512 + p.counters.tec) * 256 + p.counters.rec) * 2 + down_bit p.counters.down

-- the publication that a word stores
abbrev pub meant : ℕ → Status
meant n = record {
  at = n / 2 / 256 / 512;
  counters = record { tec = n / 2 / 256 % 512; rec = n / 2 % 256; down = nat_eq (n % 2) 1 };
}

-- the length of the record fits in 32 bits, and both counts are within their limits
abbrev pub Fits : Status → Type 0
Fits p = (p.at < 4294967296) × (p.counters.tec ≤ 263) × (p.counters.rec ≤ 255)
