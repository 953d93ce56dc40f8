use Rattle.std.specs.Prelude.{ℕ, ◌+◌, ◌-◌, ◌==◌, Bool, true, false, if◌then◌else◌}
use Rattle.std.specs.Prelude.{List, [], ◌∷◌, ◌++◌, map, drop, length, replicate, slice_index_or}
use Rattle.can_frame.specs.Frames.{CanFrame, is_fd}
use Rattle.can_wire.specs.Stuffing.{stuffed}
use Rattle.can_wire.specs.FrameBits.{checked_bits, fd_to_data_end, bits_to_check_end}
use Rattle.can_bits.specs.declared.bit.Field.{Field}
use Rattle.can_bits.specs.declared.bit.Field.TheVariants as field
use Rattle.can_bits.specs.Fields.{classic_fields, fd_head_fields, fd_rest_fields, fd_check_fields, end_fields}

-- The mark of each bit on the wire: a receiver finds the same marks.

-- the field of a bit, and whether it is a stuff bit
pub record Mark : Type 0 where
  pub field : Field
  pub is_stuff : Bool

-- the mark of a bit that is not a stuff bit
abbrev pub plain : Field → Mark
plain field = record { field = field; is_stuff = false }

-- the mark of a stuff bit
abbrev pub stuff : Field → Mark
stuff field = record { field = field; is_stuff = true }

-- the marks of bits with their stuff bits, in these fields. The last `run` bits before them have the value `last`, and
-- the last bit belongs to the field `before`. A stuff bit follows five bits of one value and has the field of the bit
-- before it (Bosch CAN Specification 2.0, section 6)
abbrev pub marks_after : Field → ℕ → ℕ → List Field → List ℕ → List Mark
marks_after before last run fields [] = []
marks_after before last run fields (b ∷ bits) =
    if run == 5 then stuff before ∷ marks_after before b 1 fields bits
    else plain (slice_index_or fields 0 before)
    ∷ marks_after (slice_index_or fields 0 before) b (if b == last then run + 1 else 1) (drop 1 fields) bits

-- the marks of bits with their stuff bits, in these fields, from start of frame on
abbrev pub marks_in : List Field → List ℕ → List Mark
marks_in fields bits = marks_after field.StartOfFrame 2 0 fields bits

-- the marks of fields with fixed stuff bits: the first fixed stuff bit follows `due` bits, and each later one follows
-- four bits after the one before it (ISO 11898-1:2015)
abbrev pub fixed_marks_after : ℕ → List Field → List Mark
fixed_marks_after due [] = []
fixed_marks_after due (field ∷ fields) =
    if due == 0 then stuff field ∷ plain field ∷ fixed_marks_after 3 fields
    else plain field ∷ fixed_marks_after (due - 1) fields

-- the marks of a frame from start of frame to the end of its CRC
abbrev pub check_marks : CanFrame → List Mark
check_marks f =
    if is_fd f.payload
    then marks_in (fd_head_fields f ++ fd_rest_fields f) (fd_to_data_end f) ++ fixed_marks_after 0 (fd_check_fields f)
    else marks_in (classic_fields f) (stuffed (checked_bits f))

-- the marks of a frame from start of frame to the end of intermission
abbrev pub marks_of : CanFrame → List Mark
marks_of f = check_marks f ++ map plain end_fields

-- for each bit up to the end of the CRC, whether it is sent at the data bit rate
abbrev pub check_rates : CanFrame → List Bool
check_rates f = replicate (bits_to_check_end f).nominal false ++ replicate (bits_to_check_end f).fast true

-- for each bit up to the end of intermission, whether it is sent at the data bit rate
abbrev pub frame_rates : CanFrame → List Bool
frame_rates f = check_rates f ++ replicate (length end_fields) false
