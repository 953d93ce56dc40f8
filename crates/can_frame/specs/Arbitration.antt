use Rattle.std.specs.Prelude.{◌≡◌, ◌≢◌, ◌<◌, ℕ, length, slice_index_or, zero, suc, ◌+◌, ◌*◌, ◌/◌}
use Rattle.std.specs.Prelude.{◌^◌, ◌==◌, Bool, false, ◌&&◌, if◌then◌else◌, List, [], ◌∷◌, ◌++◌}
use Rattle.std.specs.Int.{bit_at}
use Rattle.std.specs.List.{AllPairs}
use Rattle.can_frame.specs.Frames.{Payload, CanFrame, is_remote}

-- Arbitration of the Bosch CAN Specification 2.0: all senders watch the bus bit by bit. A dominant bit (0) overwrites a
-- recessive bit (1), and the sender of the recessive bit stops sending.

-- the lowest k bits of a number, highest bit first
abbrev pub low_bits : ℕ → ℕ → List ℕ
low_bits zero n = []
low_bits (suc k) n = bit_at n k ∷ low_bits k n

-- the RTR bit: dominant in data frames, recessive in remote frames; the RRS bit in its place is dominant in FD frames
-- (ISO 11898-1)
abbrev pub rtr_of : Payload → ℕ
rtr_of payload = if is_remote payload then 1 else 0

-- the arbitration bits of an 11-bit identifier: the 11 bits, RTR, and a dominant IDE bit
abbrev pub standard_bits : ℕ → ℕ → List ℕ
standard_bits number rtr = low_bits 11 number ++ rtr ∷ 0 ∷ []

-- the arbitration bits of a 29-bit identifier: its upper 11 bits, recessive SRR and IDE bits, its lower 18 bits, and
-- RTR
abbrev pub extended_bits : ℕ → ℕ → List ℕ
extended_bits number rtr = low_bits 11 (number / 2 ^ 18) ++ 1 ∷ 1 ∷ low_bits 18 number ++ rtr ∷ []

-- the bits by which a frame competes, in the order in which they are sent
unfoldable pub arbitration_bits : CanFrame → List ℕ
arbitration_bits f =
    if f.id.extended then extended_bits f.id.number (rtr_of f.payload)
    else standard_bits f.id.number (rtr_of f.payload)

-- the lists have equal bits up to a place where the first list has 0 and the second has 1
abbrev pub GoesBefore : List ℕ → List ℕ → Type 0
GoesBefore xs ys =
    (shared : List ℕ) × (rest : List ℕ) × (others : List ℕ)
    × (xs ≡ shared ++ 0 ∷ rest)
    × (ys ≡ shared ++ 1 ∷ others)

-- the rule `GoesBefore` as a boolean test
abbrev pub goes_before : List ℕ → List ℕ → Bool
goes_before [] ys = false
goes_before (x ∷ xs) [] = false
goes_before (x ∷ xs) (y ∷ ys) = if x == y then goes_before xs ys else (x == 0 && y == 1)

-- a wins arbitration against b
abbrev pub Outranks : CanFrame → CanFrame → Type 0
Outranks a b = GoesBefore (arbitration_bits a) (arbitration_bits b)

-- a list of bits as a number of k bits: the first bit is the highest, and missing bits at the end count as 0
abbrev pub bits_number : ℕ → List ℕ → ℕ
bits_number zero bits = 0
bits_number (suc k) [] = 0
bits_number (suc k) (b ∷ bits) = b * 2 ^ k + bits_number k bits

-- a frame's arbitration bits as a number of 32 bits, which is enough for every frame (own choice)
unfoldable pub key_of : CanFrame → ℕ
key_of f = bits_number 32 (arbitration_bits f)

-- the frame at place w outranks all others
abbrev pub Wins : List CanFrame → ℕ → Type 0
Wins frames w =
    (w < length frames)
    × ((k : ℕ) (d : CanFrame) → k < length frames → k ≢ w
    → Outranks (slice_index_or frames w d) (slice_index_or frames k d))

-- no two of the frames have the same arbitration bits
abbrev pub DifferInBits : List CanFrame → Type 0
DifferInBits frames = AllPairs (λ a b. arbitration_bits a ≢ arbitration_bits b) frames
