use Rattle.std.specs.Prelude.{ℕ, Bool, true, false, not, ◌||◌, ◌&&◌, ◌==◌, nat_le, List}
use Rattle.std.specs.Prelude.{[], length, ◌+◌, ◌^◌, ◌<◌, Option, Some, None, if◌then◌else◌}
use Rattle.can_frame.specs.declared.fd_flags.FdFlags.{FdFlags}

-- Frames as linux/can.h and the Bosch CAN Specification 2.0 define them.

-- an identifier: its number, and whether it has 29 bits instead of 11
pub record Identifier : Type 0 where
  pub extended : Bool
  pub number : ℕ

-- the number fits the identifier's bits
abbrev pub IsIdentifier : Identifier → Type 0
IsIdentifier id = id.number < (if id.extended then 2 ^ 29 else 2 ^ 11)

-- the flags of an FD frame without BRS and ESI
abbrev pub no_flags : FdFlags
no_flags = record { brs = false; esi = false }

-- neither flag is set
abbrev pub has_no_flags : FdFlags → Bool
has_no_flags flags = not flags.brs && not flags.esi

-- the flags as a number: CANFD_BRS is 1, CANFD_ESI 2 (linux/can.h)
abbrev pub flags_number : FdFlags → ℕ
flags_number flags = (if flags.brs then 1 else 0) + (if flags.esi then 2 else 0)

-- the flags with this number
abbrev pub flags_of : ℕ → Option FdFlags
flags_of n =
    if n == 0 then Some no_flags
    else if n == 1 then Some (record { brs = true; esi = false })
    else if n == 2 then Some (record { brs = false; esi = true })
    else if n == 3 then Some (record { brs = true; esi = true })
    else None

-- the payload of a frame: the bytes of a data frame, the number of bytes that a remote frame requests, or the flags and
-- bytes of an FD frame (struct canfd_frame of linux/can.h)
pub data Payload : Type 0 where
  Data : List ℕ → Payload
  Remote : ℕ → Payload
  Fd : FdFlags → List ℕ → Payload

-- a data frame, a remote frame or an FD frame
pub record CanFrame : Type 0 where
  pub id : Identifier
  pub payload : Payload

-- an error message frame: its class and its eight bytes (linux/can/error.h)
pub record ErrorMessage : Type 0 where
  pub class : ℕ
  pub bytes : List ℕ

-- whether the payload is a request instead of data
abbrev pub is_remote : Payload → Bool
is_remote (Data bytes) = false
is_remote (Remote len) = true
is_remote (Fd flags bytes) = false

-- whether the payload belongs to an FD frame
abbrev pub is_fd : Payload → Bool
is_fd (Data bytes) = false
is_fd (Remote len) = false
is_fd (Fd flags bytes) = true

-- the lengths of the 16 data length codes of FD frames, up to CANFD_MAX_DLEN (ISO 11898-1; linux/can.h)
abbrev pub is_fd_length : ℕ → Bool
is_fd_length n = nat_le n 8 || (n == 12 || (n == 16 || (n == 20 || (n == 24 || (n == 32 || (n == 48 || n == 64))))))

-- the number of bytes that the payload carries or requests
abbrev pub payload_len : Payload → ℕ
payload_len (Data bytes) = length bytes
payload_len (Remote len) = len
payload_len (Fd flags bytes) = length bytes

-- the bytes that the payload carries
abbrev pub payload_bytes : Payload → List ℕ
payload_bytes (Data bytes) = bytes
payload_bytes (Remote len) = []
payload_bytes (Fd flags bytes) = bytes

-- the flags of an FD frame; classic frames have none
abbrev pub payload_flags : Payload → FdFlags
payload_flags (Data bytes) = no_flags
payload_flags (Remote len) = no_flags
payload_flags (Fd flags bytes) = flags

-- whether the payload belongs to an FD frame with at least one flag
abbrev pub is_flagged : Payload → Bool
is_flagged payload = not (has_no_flags (payload_flags payload))

-- the identifier word: bit 31 marks 29-bit identifiers, bit 30 marks remote frames (linux/can.h); an FD frame has the
-- same word as a data frame
abbrev pub word_of : CanFrame → ℕ
word_of f = f.id.number + (if f.id.extended then 2 ^ 31 else 0) + (if is_remote f.payload then 2 ^ 30 else 0)
