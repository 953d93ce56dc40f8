use Rattle.std.specs.Prelude.{ℕ, ◌%◌, ◌^◌, nat_le, min, Bool, List, [], take, if◌then◌else◌}
use Rattle.can_frame.specs.Frames.{Identifier, Payload, CanFrame}
use Rattle.can_frame.specs.Frames.Payload.{Data, Remote}

-- A frame as its identifier word (linux/can.h), its length and eight bytes. Values that no frame has are read as the
-- nearest valid ones.

-- The identifier in an identifier word: bit 31 marks an identifier of 29 bits.
abbrev pub identifier_in : ℕ → Identifier
identifier_in word =
    if nat_le (2 ^ 31) word then record { extended = Bool.true; number = word % 2 ^ 29 }
    else record { extended = Bool.false; number = word % 2 ^ 11 }

-- Whether an identifier word belongs to a remote frame, which bit 30 marks.
abbrev pub is_remote_word : ℕ → Bool
is_remote_word word = nat_le (2 ^ 30) (word % 2 ^ 31)

-- The payload: the first `len` bytes, or for a remote frame the number of requested bytes.
abbrev pub payload_in : ℕ → ℕ → List ℕ → Payload
payload_in word len bytes =
    if is_remote_word word then Remote (min len 8) else Data (take (min len 8) bytes)

-- The frame with this identifier word, this length and these bytes.
abbrev pub frame_in : ℕ → ℕ → List ℕ → CanFrame
frame_in word len bytes = record { id = identifier_in word; payload = payload_in word len bytes }

-- An empty frame with the identifier 0.
abbrev pub no_frame : CanFrame
no_frame = record { id = record { extended = Bool.false; number = 0 }; payload = Data [] }
