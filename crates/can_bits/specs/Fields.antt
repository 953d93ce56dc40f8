use Rattle.std.specs.Prelude.{ℕ, ◌*◌, Bool, if◌then◌else◌, List, [], ◌∷◌, ◌++◌, length, replicate}
use Rattle.can_frame.specs.Frames.{CanFrame, payload_len, payload_bytes, is_fd}
use Rattle.can_wire.specs.FrameBits.{fd_generator}
use Rattle.can_bits.specs.declared.bit.Field.{Field}
use Rattle.can_bits.specs.declared.bit.Field.TheVariants as field

-- The fields of a frame in the order of sending, without stuff bits. Each field is repeated once per bit (Bosch CAN
-- Specification 2.0, section 3.2.1; for FD frames ISO 11898-1:2015). can_wire defines the values of the bits.

-- start of frame and the fields of the arbitration bits, up to IDE or, if the identifier has 29 bits, up to RTR or RRS
-- (`remote`)
abbrev pub first_fields : Bool → Field → List Field
first_fields extended remote =
    if extended
    then field.StartOfFrame ∷ replicate 11 field.Identifier ++ field.SubstituteRemote ∷ field.IdentifierExtension ∷ []
    ++ replicate 18 field.ExtendedIdentifier ++ remote ∷ []
    else field.StartOfFrame ∷ replicate 11 field.Identifier ++ remote ∷ field.IdentifierExtension ∷ []

-- the reserved bits of a classic frame
abbrev pub reserved_fields : Bool → List Field
reserved_fields extended = if extended then field.Reserved ∷ field.Reserved ∷ [] else field.Reserved ∷ []

-- the data field of a frame
abbrev pub data_fields : CanFrame → List Field
data_fields f = replicate (8 * length (payload_bytes f.payload)) field.Data

-- a classic frame from start of frame to its last data bit
abbrev pub covered_fields : CanFrame → List Field
covered_fields f =
    first_fields f.id.extended field.RemoteRequest ++ reserved_fields f.id.extended ++ replicate 4 field.LengthCode
    ++ data_fields f

-- a classic frame from start of frame to the end of its CRC
abbrev pub classic_fields : CanFrame → List Field
classic_fields f = covered_fields f ++ replicate 15 field.Crc

-- an FD frame from start of frame to BRS
abbrev pub fd_head_fields : CanFrame → List Field
fd_head_fields f =
    first_fields f.id.extended field.RemoteSubstitution
    ++ field.FdFormat ∷ field.FdReserved ∷ field.BitRateSwitch ∷ []

-- an FD frame from ESI to its last data bit
abbrev pub fd_rest_fields : CanFrame → List Field
fd_rest_fields f = field.ErrorState ∷ replicate 4 field.LengthCode ++ data_fields f

-- the stuff count, and a CRC computed with this generator
abbrev pub check_fields : List ℕ → List Field
check_fields generator = replicate 4 field.StuffCount ++ replicate (length generator) field.Crc

-- the stuff count and the CRC of an FD frame
abbrev pub fd_check_fields : CanFrame → List Field
fd_check_fields f = check_fields (fd_generator (payload_len f.payload))

-- the fields of any frame after the CRC, up to the end of intermission
abbrev pub end_fields : List Field
end_fields =
    field.CrcDelimiter ∷ field.AckSlot ∷ field.AckDelimiter ∷ replicate 7 field.EndOfFrame
    ++ replicate 3 field.Intermission
