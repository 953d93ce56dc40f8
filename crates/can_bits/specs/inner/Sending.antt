use Rattle.std.specs.Prelude.{◌≡◌, ℕ, ◌+◌, ◌-◌, ◌==◌, Bool, true, false, if◌then◌else◌, not}
use Rattle.std.specs.Prelude.{List, [], ◌∷◌, ◌++◌, map, replicate}
use Rattle.can_frame.specs.Frames.{CanFrame}
use Rattle.can_wire.specs.FrameBits.{to_check_end, bits_to_check_end}
use Rattle.can_bits.specs.declared.bit.Bit.{Bit}
use Rattle.can_bits.specs.declared.bit.Field.{Field}
use Rattle.can_bits.specs.declared.bit.Field.TheVariants as field
use Rattle.can_bits.specs.Marks.{check_marks, check_rates}
use Rattle.can_bits.specs.Sent.{levels, mark_of}

-- Terms for the proofs of sending. Callers of this crate do not need these terms.

-- the bits of one field, without stuff bits
abbrev pub in_field : Field → List ℕ → List Bit
in_field field [] = []
in_field field (b ∷ bits) =
    record { field = field; is_recessive = b == 1; is_stuff = false; is_fast = false } ∷ in_field field bits

-- the last run of equal bits that was sent: the field and the value of its last bit, and its length
pub record Last : Type 0 where
  pub field : Field
  pub is_recessive : Bool
  pub count : ℕ

-- the run before the first bit
abbrev pub nothing_sent : Last
nothing_sent = record { field = field.StartOfFrame; is_recessive = false; count = 0 }

-- a bit of a field as it is sent, at the data bit rate if `fast` is true
abbrev pub sent : Bool → Bit → Bit
sent fast b = record { field = b.field; is_recessive = b.is_recessive; is_stuff = false; is_fast = fast }

-- the stuff bit that follows a bit of this field and this value
abbrev pub stuff_bit : Bool → Field → Bool → Bit
stuff_bit fast field last = record { field = field; is_recessive = not last; is_stuff = true; is_fast = fast }

-- `due` is the stuff bit that must follow this run, if any, and `flushed` the run after that stuff bit
abbrev pub due : Bool → Last → List Bit
due fast l = if l.count == 5 then stuff_bit fast l.field l.is_recessive ∷ [] else []

abbrev pub flushed : Last → Last
flushed l = if l.count == 5 then record { field = l.field; is_recessive = not l.is_recessive; count = 1 } else l

-- `is_same` reports whether two values are equal, and `added` is the run after one more bit
abbrev pub is_same : Bool → Bool → Bool
is_same a b = if a then b else not b

abbrev pub added : Bit → Last → Last
added b l = record {
  field = b.field;
  is_recessive = b.is_recessive;
  count = if is_same b.is_recessive l.is_recessive then l.count + 1 else 1;
}

-- all bits that are sent for these bits: before each bit the stuff bit that is due, if any
abbrev pub sent_all : Bool → List Bit → Last → List Bit
sent_all fast [] l = []
sent_all fast (b ∷ bits) l = due fast l ++ sent fast b ∷ sent_all fast bits (added b (flushed l))

-- the run after these bits
abbrev pub last_after : List Bit → Last → Last
last_after [] l = l
last_after (b ∷ bits) l = last_after bits (added b (flushed l))

-- all bits that are sent for these bits with fixed stuff bits; `last` is the value of the bit before them, and the
-- first stuff bit follows `due` bits
abbrev pub sent_fixed : Bool → Bool → ℕ → List Bit → List Bit
sent_fixed fast last due [] = []
sent_fixed fast last due (b ∷ bits) =
    if due == 0 then stuff_bit fast b.field last ∷ sent fast b ∷ sent_fixed fast b.is_recessive 3 bits
    else sent fast b ∷ sent_fixed fast b.is_recessive (due - 1) bits

-- ---- properties of bits

-- the fields of bits
abbrev pub fields_in : List Bit → List Field
fields_in bits = map (λ b. b.field) bits

-- these bits have these fields and these values
pub record AreFields (bits : List Bit) (laid : List Field) (sent : List ℕ) : Type 0 where
  pub fields : fields_in bits ≡ laid
  pub values : levels bits ≡ sent

-- bits with these fields and these values are added
pub record Adds (old new : List Bit) (laid : List Field) (sent : List ℕ) : Type 0 where
  pub fields : fields_in new ≡ fields_in old ++ laid
  pub values : levels new ≡ levels old ++ sent

-- these are the bits of a frame on the wire up to the end of its CRC
pub record AreToCheckEnd (f : CanFrame) (bits : List Bit) : Type 0 where
  pub wire : levels bits ≡ to_check_end f
  pub marks : map mark_of bits ≡ check_marks f
  pub rates : map (λ b. b.is_fast) bits ≡ check_rates f

-- the bits after the CRC, up to the end of intermission
abbrev pub end_sent : List Bit
end_sent =
    in_field field.CrcDelimiter (1 ∷ []) ++ in_field field.AckSlot (0 ∷ []) ++ in_field field.AckDelimiter (1 ∷ [])
    ++ in_field field.EndOfFrame (replicate 7 1) ++ in_field field.Intermission (replicate 3 1)
