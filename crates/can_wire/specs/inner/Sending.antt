use Rattle.std.specs.Prelude.{ℕ, ◌+◌, ◌-◌, ◌==◌, nat_le, List, [], ◌∷◌, ◌++◌, if◌then◌else◌}
use Rattle.can_frame.specs.Arbitration.{low_bits}
use Rattle.can_wire.specs.declared.bits.Bits.{Bits}
use Rattle.can_wire.specs.Division.{xor, subtracted}

-- How bits are sent one after another and checked. Callers do not need to know this.

-- the bits that a word of bits holds, in the order in which they are sent
abbrev pub bits_of : Bits → List ℕ
bits_of b = low_bits b.count b.number

-- the state after sending bits: the last bit, the length of the run of equal bits that it ends, and how many bits were
-- sent
pub record Sent : Type 0 where
  pub last : ℕ
  pub run : ℕ
  pub count : ℕ

-- the state before the first bit
abbrev pub nothing_sent : Sent
nothing_sent = record { last = 2; run = 0; count = 0 }

-- the state after the stuff bit, if one is due
abbrev pub flushed : Sent → Sent
flushed s = if s.run == 5 then record { last = 1 - s.last; run = 1; count = s.count + 1 } else s

-- the state after one more bit
abbrev pub added : ℕ → Sent → Sent
added b s = record { last = b; run = if b == s.last then s.run + 1 else 1; count = s.count + 1 }

-- the state after more bits, each preceded by the stuff bit if one is due
abbrev pub sent_all : List ℕ → Sent → Sent
sent_all [] s = s
sent_all (b ∷ bits) s = sent_all bits (added b (flushed s))

-- the bits of the register that makes a CRC of 15 bits
unfoldable pub register_bits : ℕ → List ℕ
register_bits n = low_bits 15 n

-- the register after one more bit (Bosch, section 3.2.1)
abbrev pub shifted : List ℕ → ℕ → List ℕ → List ℕ
shifted g b [] = []
shifted g b (t ∷ r) = if xor b t == 0 then r ++ 0 ∷ [] else subtracted g (r ++ 0 ∷ [])

-- the register after several more bits
abbrev pub shifted_all : List ℕ → List ℕ → List ℕ → List ℕ
shifted_all g [] r = r
shifted_all g (b ∷ bits) r = shifted_all g bits (shifted g b r)

-- how many bits an FD frame of this many bytes has from the end of its data to the end of its CRC
abbrev pub fd_check_width : ℕ → ℕ
fd_check_width n = if nat_le n 16 then 27 else 32
