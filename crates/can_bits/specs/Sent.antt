use Rattle.std.specs.Prelude.{◌≡◌, ℕ, List, ◌++◌, map, replicate}
use Rattle.can_frame.specs.Frames.{CanFrame}
use Rattle.can_wire.specs.FrameBits.{wire_of, bit_of}
use Rattle.can_wire.specs.AttemptBits.{intermission}
use Rattle.can_bits.specs.declared.bit.Bit.{Bit}
use Rattle.can_bits.specs.Marks.{Mark, marks_of, frame_rates}

-- The bits of a frame, each with its value, its mark and its bit rate.

-- the values of bits: 0 is dominant
abbrev pub levels : List Bit → List ℕ
levels bits = map (λ b. bit_of b.is_recessive) bits

-- the mark of a bit
abbrev pub mark_of : Bit → Mark
mark_of b = record { field = b.field; is_stuff = b.is_stuff }

-- These are the bits of a frame on the wire, from start of frame to the end of intermission, if no node sends anything
-- else.
pub record AreBitsOf (f : CanFrame) (bits : List Bit) : Type 0 where
  pub wire : levels bits ≡ wire_of f ++ replicate intermission 1
  pub marks : map mark_of bits ≡ marks_of f
  pub rates : map (λ b. b.is_fast) bits ≡ frame_rates f
