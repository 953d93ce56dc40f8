use Rattle.std.specs.Prelude.{ℕ, ◌+◌, ◌-◌, ◌/◌, ◌%◌, bit_xor, nat_le, ◌==◌, ◌&&◌, Bool}
use Rattle.std.specs.Prelude.{List, [], ◌∷◌, ◌++◌, length, replicate, if◌then◌else◌}
use Rattle.can_frame.specs.Frames.{CanFrame, payload_len, payload_bytes, payload_flags, is_fd}
use Rattle.can_frame.specs.Arbitration.{arbitration_bits, low_bits}
use Rattle.can_wire.specs.Stuffing.{stuffed, stuffed_inside, then_fixed_stuffed}
use Rattle.can_wire.specs.Division.{check_of, check_from_one, generator_15, generator_17, generator_21}
use Rattle.can_wire.specs.declared.wire_bits.WireBits.{WireBits}

-- The bits of frames on the wire, in the order in which they are sent: 0 is dominant (Bosch CAN Specification 2.0,
-- section 3.2.1; for FD frames ISO 11898-1:2015).

-- the bits of bytes, highest bit of each byte first
abbrev pub byte_bits : List ℕ → List ℕ
byte_bits [] = []
byte_bits (b ∷ bytes) = low_bits 8 b ++ byte_bits bytes

-- a flag as a bit
abbrev pub bit_of : Bool → ℕ
bit_of flag = if flag then 1 else 0

-- CRC delimiter, ACK slot, ACK delimiter and seven bits of end of frame; the ACK slot is dominant because a receiver
-- acknowledges
abbrev pub end_bits : List ℕ
end_bits = 1 ∷ 0 ∷ 1 ∷ replicate 7 1

-- ---- classic frames

-- the reserved bits of a classic frame: r1 and r0 for a 29-bit identifier, otherwise only r0, which follows IDE
abbrev pub reserved_bits : Bool → List ℕ
reserved_bits extended = if extended then 0 ∷ 0 ∷ [] else 0 ∷ []

-- a classic frame from start of frame to its data length code
unfoldable pub classic_head : CanFrame → List ℕ
classic_head f = 0 ∷ arbitration_bits f ++ reserved_bits f.id.extended ++ low_bits 4 (payload_len f.payload)

-- the bits that the CRC of a classic frame covers: the head and the data
abbrev pub covered_bits : CanFrame → List ℕ
covered_bits f = classic_head f ++ byte_bits (payload_bytes f.payload)

-- the bits of a classic frame that are stuffed: the bits that the CRC covers, and the CRC itself
abbrev pub checked_bits : CanFrame → List ℕ
checked_bits f = covered_bits f ++ check_of generator_15 (covered_bits f)

-- ---- FD frames

-- an FD frame from start of frame to BRS, the bit that switches to the data bit rate: FDF is 1, res is 0
unfoldable pub fd_head : CanFrame → List ℕ
fd_head f = 0 ∷ arbitration_bits f ++ 1 ∷ 0 ∷ bit_of (payload_flags f.payload).brs ∷ []

-- the data length code of an FD frame by its number of bytes (ISO 11898-1; linux/can.h, struct canfd_frame)
abbrev pub fd_code : ℕ → ℕ
fd_code n =
    if nat_le n 8 then n
    else if n == 12 then 9
    else if n == 16 then 10
    else if n == 20 then 11
    else if n == 24 then 12
    else if n == 32 then 13
    else if n == 48 then 14
    else 15

-- the bits of an FD frame after BRS, to its last data bit: ESI, the data length code and the data
abbrev pub fd_rest : CanFrame → List ℕ
fd_rest f =
    bit_of (payload_flags f.payload).esi ∷ low_bits 4 (fd_code (payload_len f.payload))
    ++ byte_bits (payload_bytes f.payload)

-- an FD frame to its last data bit, as it is sent
abbrev pub fd_to_data_end : CanFrame → List ℕ
fd_to_data_end f = stuffed_inside (fd_head f ++ fd_rest f)

-- how many stuff bits an FD frame has up to its last data bit
abbrev pub fd_stuff_bits : CanFrame → ℕ
fd_stuff_bits f = length (fd_to_data_end f) - length (fd_head f ++ fd_rest f)

-- the stuff count: a number of stuff bits modulo 8 in Gray code, and a parity bit that makes the number of ones even
abbrev pub stuff_count : ℕ → List ℕ
stuff_count n = low_bits 3 (bit_xor (n % 8) (n % 8 / 2)) ++ n % 2 ∷ []

-- the generator of the CRC of an FD frame of this many bytes
abbrev pub fd_generator : ℕ → List ℕ
fd_generator n = if nat_le n 16 then generator_17 else generator_21

-- the stuff count and the CRC of an FD frame; the CRC covers the bits as they are sent and the stuff count
unfoldable pub fd_check : CanFrame → List ℕ
fd_check f =
    stuff_count (fd_stuff_bits f)
    ++ check_from_one (fd_generator (payload_len f.payload)) (fd_to_data_end f ++ stuff_count (fd_stuff_bits f))

-- an FD frame to the end of its CRC, as it is sent
abbrev pub fd_to_check_end : CanFrame → List ℕ
fd_to_check_end f = then_fixed_stuffed (fd_to_data_end f) (fd_check f)

-- ---- any frame

-- a frame from start of frame to its last data bit, or to its data length code if it has no data, as it is sent
abbrev pub to_data_end : CanFrame → List ℕ
to_data_end f = if is_fd f.payload then fd_to_data_end f else stuffed_inside (covered_bits f)

-- a frame from start of frame to the end of its CRC
abbrev pub to_check_end : CanFrame → List ℕ
to_check_end f = if is_fd f.payload then fd_to_check_end f else stuffed (checked_bits f)

-- a frame from start of frame to end of frame, as it is on the wire
abbrev pub wire_of : CanFrame → List ℕ
wire_of f = to_check_end f ++ end_bits

-- ---- how many bits there are, by their rates

-- the bits of a frame split by bit rate: if the frame switches, all bits after the first `few` are sent at the data bit
-- rate
abbrev pub by_rates : Bool → ℕ → ℕ → WireBits
by_rates switches few n =
    if switches then record { nominal = few; fast = n - few } else record { nominal = n; fast = 0 }

-- these bits and more bits at the nominal bit rate
abbrev pub then_nominal : WireBits → ℕ → WireBits
then_nominal bits n = record { nominal = bits.nominal + n; fast = bits.fast }

-- how many bits an FD frame has up to and including BRS
abbrev pub fd_bits_to_brs : CanFrame → ℕ
fd_bits_to_brs f = length (stuffed_inside (fd_head f))

-- this many bits of a frame, split by bit rate: an FD frame with BRS switches
abbrev pub rated : CanFrame → ℕ → WireBits
rated f n = by_rates (is_fd f.payload && (payload_flags f.payload).brs) (fd_bits_to_brs f) n

-- how many bits a frame has to its last data bit
unfoldable pub bits_to_data_end : CanFrame → WireBits
bits_to_data_end f = rated f (length (to_data_end f))

-- how many bits a frame has to the end of its CRC
unfoldable pub bits_to_check_end : CanFrame → WireBits
bits_to_check_end f = rated f (length (to_check_end f))

-- how many bits a frame has to end of frame
abbrev pub frame_bits_of : CanFrame → WireBits
frame_bits_of f = then_nominal (bits_to_check_end f) (length end_bits)
