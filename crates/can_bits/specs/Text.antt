use Rattle.std.specs.Prelude.{◌≡◌, ℕ, ◌+◌, ◌==◌, nat_lt, Bool, if◌then◌else◌, Option, Some, None}
use Rattle.std.specs.Prelude.{List, [], ◌∷◌, ◌++◌, length, filter, replicate, codes, decimal}
use Rattle.can_frame.specs.Frames.{CanFrame}
use Rattle.can_frame.specs.Arbitration.{key_of}
use Rattle.can_frame.specs.FrameText.{frame_spelling}
use Rattle.can_frame.specs.declared.item.Item.TheVariants as item
use Rattle.can_wire.specs.FrameBits.{wire_of, bit_of}
use Rattle.can_wire.specs.AttemptBits.{intermission}
use Rattle.can_wire.specs.Timings.{BusTiming, frame_nanos_of}
use Rattle.can_bits.specs.declared.bit.Bit.{Bit}
use Rattle.can_bits.specs.declared.bit.Field.{Field}
use Rattle.can_bits.specs.declared.bit.Field.TheVariants as field
use Rattle.can_bits.specs.Sent.{AreBitsOf}

-- The text of a frame's bits (own choice). It has a line for each field, with stuff bits in parentheses; the counts of
-- bits; and, for each other frame, the bit at which its sender falls silent if it loses arbitration.

-- the name of a field, padded to 15 columns
abbrev pub name_of : Field → List ℕ
name_of field.StartOfFrame = codes "SOF            "
name_of field.Identifier = codes "identifier     "
name_of field.SubstituteRemote = codes "SRR            "
name_of field.IdentifierExtension = codes "IDE            "
name_of field.ExtendedIdentifier = codes "extension      "
name_of field.RemoteRequest = codes "RTR            "
name_of field.RemoteSubstitution = codes "RRS            "
name_of field.Reserved = codes "reserved       "
name_of field.FdFormat = codes "FDF            "
name_of field.FdReserved = codes "res            "
name_of field.BitRateSwitch = codes "BRS            "
name_of field.ErrorState = codes "ESI            "
name_of field.LengthCode = codes "DLC            "
name_of field.Data = codes "data           "
name_of field.StuffCount = codes "stuff count    "
name_of field.Crc = codes "CRC            "
name_of field.CrcDelimiter = codes "CRC delimiter  "
name_of field.AckSlot = codes "ACK slot       "
name_of field.AckDelimiter = codes "ACK delimiter  "
name_of field.EndOfFrame = codes "EOF            "
name_of field.Intermission = codes "intermission   "

-- the position of a field in the order of declaration, from 0
abbrev pub field_place : Field → ℕ
field_place field.StartOfFrame = 0
field_place field.Identifier = 1
field_place field.SubstituteRemote = 2
field_place field.IdentifierExtension = 3
field_place field.ExtendedIdentifier = 4
field_place field.RemoteRequest = 5
field_place field.RemoteSubstitution = 6
field_place field.Reserved = 7
field_place field.FdFormat = 8
field_place field.FdReserved = 9
field_place field.BitRateSwitch = 10
field_place field.ErrorState = 11
field_place field.LengthCode = 12
field_place field.Data = 13
field_place field.StuffCount = 14
field_place field.Crc = 15
field_place field.CrcDelimiter = 16
field_place field.AckSlot = 17
field_place field.AckDelimiter = 18
field_place field.EndOfFrame = 19
field_place field.Intermission = 20

-- whether two fields are the same
abbrev pub is_same_field : Field → Field → Bool
is_same_field f g = field_place f == field_place g

-- ---- a line for each field

-- the start of a bit's text: the field's name on a new line, unless the bit before it has the same field
abbrev pub line_start : Option Field → Field → List ℕ
line_start None f = name_of f
line_start (Some before) f = if is_same_field before f then [] else 10 ∷ name_of f

-- a bit as a digit, with parentheses around a stuff bit
abbrev pub bit_text : Bit → List ℕ
bit_text b =
    if b.is_stuff then 40 ∷ (48 + bit_of b.is_recessive) ∷ 41 ∷ [] else (48 + bit_of b.is_recessive) ∷ []

-- the lines of these bits; `before` is the field of the bit before them, if there is one
abbrev pub lines_after : Option Field → List Bit → List ℕ
lines_after before [] = []
lines_after before (b ∷ bits) = line_start before b.field ++ (bit_text b ++ lines_after (Some b.field) bits)

-- ---- counts of bits

-- `stuff_bits` is the number of stuff bits, and `fast_bits` the number of bits at the data bit rate
abbrev pub stuff_bits : List Bit → ℕ
stuff_bits bits = length (filter (λ b. b.is_stuff) bits)

abbrev pub fast_bits : List Bit → ℕ
fast_bits bits = length (filter (λ b. b.is_fast) bits)

-- `counts_line` is the line with these counts, and `total_line` the line for these bits
abbrev pub counts_line : ℕ → ℕ → ℕ → List ℕ
counts_line all stuffs fast =
    codes "total          " ++ decimal all ++ codes " bits, " ++ decimal stuffs ++ codes " of them stuff bits, "
    ++ decimal fast ++ codes " at the data bit rate" ++ 10 ∷ []

abbrev pub total_line : List Bit → List ℕ
total_line bits = counts_line (length bits) (stuff_bits bits) (fast_bits bits)

-- `nanos_line` is the line with the time of the frame, and `time_line` is the same line if the bus has bit rates
abbrev pub nanos_line : ℕ → List ℕ
nanos_line nanos = codes "time           " ++ decimal nanos ++ codes " ns to end of frame" ++ 10 ∷ []

abbrev pub time_line : Option BusTiming → CanFrame → List ℕ
time_line None f = []
time_line (Some t) f = nanos_line (frame_nanos_of t f)

-- ---- senders that fall silent

-- the values of a frame's bits, to the end of intermission
abbrev pub sent_values : CanFrame → List ℕ
sent_values f = wire_of f ++ replicate intermission 1

-- The bit at which the sender of `values` falls silent, after `k` equal bits. It is the first bit that differs, if that
-- sender sends a recessive bit there (Bosch CAN Specification 2.0, section 2: it sends a recessive bit and sees a
-- dominant one)
abbrev pub silence_after : ℕ → List Bit → List ℕ → Option (ℕ × Field)
silence_after k [] values = None
silence_after k (b ∷ bits) [] = None
silence_after k (b ∷ bits) (v ∷ values) =
    if bit_of b.is_recessive == v then silence_after (k + 1) bits values
    else if b.is_recessive then None else Some (k, b.field)

-- the bit at which the sender of another frame falls silent, if it loses arbitration to the frame with these bits
abbrev pub silence : CanFrame → List Bit → CanFrame → Option (ℕ × Field)
silence f bits other = if nat_lt (key_of f) (key_of other) then silence_after 0 bits (sent_values other) else None

-- `silence_text` is the start of another frame's line, and `silence_line` the whole line
abbrev pub silence_text : Option (ℕ × Field) → List ℕ
silence_text None = codes "not silent     "
silence_text (Some p) = codes "silent         " ++ name_of p.1 ++ codes "bit " ++ decimal p.0 ++ codes ", "

abbrev pub silence_line : CanFrame → List Bit → CanFrame → List ℕ
silence_line f bits other = silence_text (silence f bits other) ++ frame_spelling (item.Data other) ++ 10 ∷ []

-- the lines of all other frames
abbrev pub silence_lines : CanFrame → List Bit → List CanFrame → List ℕ
silence_lines f bits [] = []
silence_lines f bits (other ∷ others) = silence_line f bits other ++ silence_lines f bits others

-- ---- the whole

-- the text of these bits
abbrev pub text_of_bits : CanFrame → List CanFrame → Option BusTiming → List Bit → List ℕ
text_of_bits f others timing bits =
    lines_after None bits ++ 10 ∷ [] ++ total_line bits ++ time_line timing f ++ silence_lines f bits others

-- the text shows the bits of a frame, and the other frames that compete with this frame
pub record IsBitsText (f : CanFrame) (others : List CanFrame) (timing : Option BusTiming) (text : List ℕ) : Type 0 where
  pub bits : List Bit
  pub are : AreBitsOf f bits
  pub spelled : text ≡ text_of_bits f others timing bits
