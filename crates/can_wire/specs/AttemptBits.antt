use Rattle.std.specs.Prelude.{ℕ, ◌+◌, Bool, true, false, if◌then◌else◌}
use Rattle.can_frame.specs.Frames.{CanFrame}
use Rattle.can_fault.specs.declared.verdict.Verdict.{Verdict}
use Rattle.can_fault.specs.declared.verdict.Verdict.TheVariants as verdict
use Rattle.can_fault.specs.declared.verdict.GlobalKind.TheVariants as global
use Rattle.can_fault.specs.declared.verdict.LocalKind.TheVariants as local
use Rattle.can_attempt.specs.declared.class.Class.{Class}
use Rattle.can_attempt.specs.declared.class.Class.TheVariants as class
use Rattle.can_wire.specs.FrameBits.{bits_to_data_end, bits_to_check_end, frame_bits_of, then_nominal}
use Rattle.can_wire.specs.declared.wire_bits.WireBits.{WireBits}

-- How many bits attempts take, from start of frame until the next frame may begin. The parts of an attempt are defined
-- in the Bosch CAN Specification 2.0, sections 3 and 7. The bit at which a fault is detected is own choice, since a
-- verdict does not name one. All bits after the CRC are sent at the nominal bit rate.

-- the fault is detected by the end of the data: a bit that was read back with the wrong value, or six equal bits; other
-- faults are detected after the CRC
abbrev pub is_early : Verdict → Bool
is_early (verdict.Global global.Bit) = true
is_early (verdict.Global global.Form) = false
is_early (verdict.Local set local.Stuff) = true
is_early (verdict.Local set local.Crc) = false
is_early (verdict.Local set local.Form) = false
is_early verdict.Good = false
is_early verdict.LastBit = false

-- the bits from the end of the CRC to the end of the ACK slot: CRC delimiter and ACK slot
abbrev pub to_ack_slot : ℕ
to_ack_slot = 2

-- the bits from the end of the CRC to the end of the ACK delimiter
abbrev pub to_ack_delimiter : ℕ
to_ack_delimiter = 3

-- the bits of an error flag that no other node answers
abbrev pub flag : ℕ
flag = 6

-- the bits of an error flag that receivers answer with an overload flag, which begins one bit later
abbrev pub overload_answered_flag : ℕ
overload_answered_flag = 7

-- the bits of an error flag that other nodes answer with error flags, which begin when it ends
abbrev pub answered_flag : ℕ
answered_flag = 12

-- the bits of the delimiter that ends an error frame or an overload frame
abbrev pub delimiter : ℕ
delimiter = 8

-- the bits of the intermission between two frames
abbrev pub intermission : ℕ
intermission = 3

-- how many bits of a frame are sent before error flags answer its fault: after a CRC error the flag begins after the
-- ACK delimiter (Bosch, section 7.2)
abbrev pub bits_to_fault : CanFrame → Verdict → WireBits
bits_to_fault f v = if is_early v then bits_to_data_end f else then_nominal (bits_to_check_end f) to_ack_delimiter

-- how many bits an attempt takes: if nobody acknowledges, the sender's flag begins after the ACK slot
abbrev pub attempt_bits_of : CanFrame → Class → Verdict → WireBits
attempt_bits_of f class.Done v = then_nominal (frame_bits_of f) intermission
attempt_bits_of f class.LastBit v = then_nominal (frame_bits_of f) (overload_answered_flag + delimiter + intermission)
attempt_bits_of f class.NoAck v = then_nominal (bits_to_check_end f) (to_ack_slot + flag + delimiter + intermission)
attempt_bits_of f class.Destroyed v = then_nominal (bits_to_fault f v) (answered_flag + delimiter + intermission)
