use Rattle.std.proofs.Common.{◌≡◌, ℕ, ◌+◌, ◌-◌, ◌*◌, ◌/◌, ◌≤◌, Bool, true, false, List, ◌∷◌, ◌++◌, length, replicate, take, drop, refl, ap, ◌∙◌, arith, length-append, length-drop}
use Rattle.std.proofs.lemmas.List.{length-take}
use Rattle.std.proofs.lemmas.Bool.{false≢true}
use Rattle.can_frame.specs.Frames.{CanFrame, Payload, payload_len, payload_bytes, payload_flags, is_fd}
use Rattle.can_frame.specs.Frames.Payload.{Data, Remote, Fd}
use Rattle.can_frame.specs.Arbitration.{arbitration_bits, low_bits, standard_bits, extended_bits}
use Rattle.can_frame.proofs.Bits.{IsBits, IsBits-append, IsBits-low_bits}
use Rattle.can_frame.proofs.Keys.{IsBits-arbitration_bits}
use Rattle.can_wire.specs.Stuffing.{stuffed, stuffed_inside}
use Rattle.can_wire.specs.Division.{remainder, check_of, generator_15}
use Rattle.can_wire.specs.FrameBits.{byte_bits, bit_of, end_bits, reserved_bits, classic_head, covered_bits, checked_bits, fd_head, fd_code, fd_rest, fd_to_check_end, wire_of, bits_to_check_end, frame_bits_of}
use Rattle.can_wire.specs.inner.Sending.{fd_check_width}
use Rattle.can_wire.proofs.Stuffed.{stuffed_least, stuffed_most}
use Rattle.can_wire.proofs.Divided.{length-check_of, length-generator, generator_bits, length-byte_bits, IsBits-byte_bits, nothing_left}
use Rattle.can_wire.proofs.Widths.{length-fd_to_check_end}

-- How many bits frames have.

-- a frame carries no more bytes than its length says
pub bytes_within : (p : Payload) → length (payload_bytes p) ≤ payload_len p
bytes_within (Data bytes) = omega arith
bytes_within (Remote len) = omega arith
bytes_within (Fd flags bytes) = omega arith

length-standard : (n r : ℕ) → length (standard_bits n r) ≡ 13
length-standard n r = refl

length-extended : (n r : ℕ) → length (extended_bits n r) ≡ 32
length-extended n r = refl

-- a classic frame's fields before its data
head_standard : (f : CanFrame) → f.id.extended ≡ false → length (classic_head f) ≡ 19
unfolding classic_head arbitration_bits
head_standard f h = rw h refl

head_extended : (f : CanFrame) → f.id.extended ≡ true → length (classic_head f) ≡ 39
unfolding classic_head arbitration_bits
head_extended f h = rw h refl

-- all stuffed bits of a classic frame
length-checked : (f : CanFrame) (head : ℕ) → length (classic_head f) ≡ head → length (checked_bits f) ≡ head + 8 * length (payload_bytes f.payload) + 15
length-checked f head h =
    let bytes : List ℕ = byte_bits (payload_bytes f.payload) in
    omega (arith, h, length-append (covered_bits f) (check_of generator_15 (covered_bits f)), length-append (classic_head f) bytes, length-byte_bits (payload_bytes f.payload), length-check_of generator_15 (covered_bits f), length-generator)

-- a classic frame as it is on the wire, and its bits at the data bit rate
classic_wire : (f : CanFrame) → is_fd f.payload ≡ false → length (wire_of f) ≡ length (stuffed (checked_bits f)) + 10
classic_wire f h = rw h (length-append (stuffed (checked_bits f)) end_bits)

pub classic_fast : (f : CanFrame) → is_fd f.payload ≡ false → (frame_bits_of f).fast ≡ 0
unfolding bits_to_check_end
classic_fast f h = rw h refl

-- the minimum and maximum number of bits of a frame with this many bits before its data
bounded : (f : CanFrame) (head n : ℕ) → is_fd f.payload ≡ false → length (classic_head f) ≡ head → length (payload_bytes f.payload) ≡ n → (head + 28 + 8 * n ≤ length (wire_of f) + 3) × (length (wire_of f) + 3 ≤ head + 28 + 8 * n + (head + 15 + 8 * n - 1) / 4)
bounded f head n classic long bytes =
    let all = classic_wire f classic in
    let count = length-checked f head long in
    let least = stuffed_least (checked_bits f) 2 0 in
    let most = stuffed_most (checked_bits f) 2 0 (omega arith) in
    (omega (arith, all, count, least, bytes), omega (arith, all, count, most, bytes))

pub bounded_standard : (f : CanFrame) (n : ℕ) → is_fd f.payload ≡ false → f.id.extended ≡ false → length (payload_bytes f.payload) ≡ n → (47 + 8 * n ≤ length (wire_of f) + 3) × (length (wire_of f) + 3 ≤ 47 + 8 * n + (34 + 8 * n - 1) / 4)
bounded_standard f n classic standard bytes = bounded f 19 n classic (head_standard f standard) bytes

pub bounded_extended : (f : CanFrame) (n : ℕ) → is_fd f.payload ≡ false → f.id.extended ≡ true → length (payload_bytes f.payload) ≡ n → (67 + 8 * n ≤ length (wire_of f) + 3) × (length (wire_of f) + 3 ≤ 67 + 8 * n + (54 + 8 * n - 1) / 4)
bounded_extended f n classic extended bytes = bounded f 39 n classic (head_extended f extended) bytes

-- ---- FD frames

-- the bits with stuff bits, but without one after the last bit
inside_least : (bits : List ℕ) → length bits ≤ length (stuffed_inside bits)
inside_least bits =
    let k : ℕ = length bits - 1 in
    omega (arith, length-append (stuffed (take k bits)) (drop k bits), stuffed_least (take k bits) 2 0, length-take k bits, length-drop k bits)

inside_most : (bits : List ℕ) → 1 ≤ length bits → length (stuffed_inside bits) ≤ length bits + (length bits - 2) / 4
inside_most bits some =
    let k : ℕ = length bits - 1 in
    omega (arith, some, length-append (stuffed (take k bits)) (drop k bits), stuffed_most (take k bits) 2 0 (omega arith), length-take k bits, length-drop k bits)

fd_standard : (f : CanFrame) → f.id.extended ≡ false → length (fd_head f) ≡ 17
unfolding fd_head arbitration_bits
fd_standard f h = rw h refl

fd_extended : (f : CanFrame) → f.id.extended ≡ true → length (fd_head f) ≡ 36
unfolding fd_head arbitration_bits
fd_extended f h = rw h refl

fd_len : (p : Payload) → is_fd p ≡ true → payload_len p ≡ length (payload_bytes p)
fd_len (Data bytes) h = refl
fd_len (Remote len) h = absurd (false≢true h)
fd_len (Fd flags bytes) h = refl

fd_carried : (f : CanFrame) → length (fd_head f ++ fd_rest f) ≡ length (fd_head f) + 5 + 8 * length (payload_bytes f.payload)
fd_carried f =
    let bytes : List ℕ = byte_bits (payload_bytes f.payload) in
    let control : List ℕ = bit_of (payload_flags f.payload).esi ∷ low_bits 4 (fd_code (payload_len f.payload)) in
    omega (arith, length-append (fd_head f) (fd_rest f), length-append control bytes, length-byte_bits (payload_bytes f.payload))

fd_wire : (f : CanFrame) → is_fd f.payload ≡ true → length (wire_of f) ≡ length (fd_to_check_end f) + 10
fd_wire f h = rw h (length-append (fd_to_check_end f) end_bits)

fd_bounded : (f : CanFrame) (head n : ℕ) → is_fd f.payload ≡ true → length (fd_head f) ≡ head → length (payload_bytes f.payload) ≡ n → (head + 18 + 8 * n + fd_check_width n ≤ length (wire_of f) + 3) × (length (wire_of f) + 3 ≤ head + 18 + 8 * n + fd_check_width n + (head + 3 + 8 * n) / 4)
fd_bounded f head n fd long bytes =
    let all : List ℕ = fd_head f ++ fd_rest f in
    let wire = fd_wire f fd in
    let count = fd_carried f in
    let check = length-fd_to_check_end f in
    let width : fd_check_width (payload_len f.payload) ≡ fd_check_width n = ap fd_check_width (fd_len f.payload fd ∙ bytes) in
    let least = inside_least all in
    let most = inside_most all (omega (arith, count)) in
    (omega (arith, wire, count, check, width, least, long, bytes), omega (arith, wire, count, check, width, most, long, bytes))

pub fd_bounded_standard : (f : CanFrame) (n : ℕ) → is_fd f.payload ≡ true → f.id.extended ≡ false → length (payload_bytes f.payload) ≡ n → (35 + 8 * n + fd_check_width n ≤ length (wire_of f) + 3) × (length (wire_of f) + 3 ≤ 35 + 8 * n + fd_check_width n + (20 + 8 * n) / 4)
fd_bounded_standard f n fd standard bytes = fd_bounded f 17 n fd (fd_standard f standard) bytes

pub fd_bounded_extended : (f : CanFrame) (n : ℕ) → is_fd f.payload ≡ true → f.id.extended ≡ true → length (payload_bytes f.payload) ≡ n → (54 + 8 * n + fd_check_width n ≤ length (wire_of f) + 3) × (length (wire_of f) + 3 ≤ 54 + 8 * n + fd_check_width n + (39 + 8 * n) / 4)
fd_bounded_extended f n fd extended bytes = fd_bounded f 36 n fd (fd_extended f extended) bytes

-- ---- what the CRC covers is bits

reserved_zeros : (e : Bool) → IsBits (reserved_bits e)
reserved_zeros true = (omega arith, (omega arith, tt))
reserved_zeros false = (omega arith, tt)

covered_is_bits : (f : CanFrame) → IsBits (covered_bits f)
unfolding classic_head
covered_is_bits f =
    let arbitration = (IsBits-arbitration_bits f).0 in
    let length_code = IsBits-low_bits 4 (payload_len f.payload) in
    let reserved = IsBits-append (arbitration_bits f) (reserved_bits f.id.extended) arbitration (reserved_zeros f.id.extended) in
    let head = IsBits-append (arbitration_bits f ++ reserved_bits f.id.extended) (low_bits 4 (payload_len f.payload)) reserved length_code in
    (omega arith, IsBits-append (arbitration_bits f ++ reserved_bits f.id.extended ++ low_bits 4 (payload_len f.payload)) (byte_bits (payload_bytes f.payload)) head (IsBits-byte_bits (payload_bytes f.payload)))

pub crc_leaves_nothing : (f : CanFrame) → remainder generator_15 (length (covered_bits f)) (checked_bits f) ≡ replicate 15 0
crc_leaves_nothing f = nothing_left generator_15 (covered_bits f) generator_bits (covered_is_bits f) ∙ ap (λ (n : ℕ). replicate n 0) length-generator
