use Rattle.std.specs.Prelude.{IsTrue, ◌≡◌, ◌<◌, ◌≤◌, ◌⊎◌, ℕ, zero, suc, ◌+◌, ◌/◌, ◌%◌, ◌^◌, ◌==◌}
use Rattle.std.specs.Prelude.{nat_lt, Bool, true, not, if◌then◌else◌, List, [], ◌∷◌, ◌++◌, length, map}
use Rattle.std.specs.Char.{to_ascii_uppercase}
use Rattle.std.specs.Fmt.{decimal}
use Rattle.hex.specs.Hex.{IsBytes}
use Rattle.can_frame.specs.Frames.{Identifier, IsIdentifier, Payload, is_fd_length, flags_number, is_flagged}
use Rattle.can_frame.specs.Frames.Payload.{Data, Remote, Fd}
use Rattle.can_frame.specs.declared.item.Item.{Item}
use Rattle.can_frame.specs.declared.item.Item.TheVariants as item

-- Frames as text, in the shape of candump's log files (can-utils).

-- an upper-case digit
abbrev pub digit_of : ℕ → ℕ
digit_of v = if nat_lt v 10 then 48 + v else 55 + v

-- the last `count` digits of a number in a base
abbrev pub digits : ℕ → ℕ → ℕ → List ℕ
digits base zero n = []
digits base (suc count) n = digits base count (n / base) ++ digit_of (n % base) ∷ []

-- the bytes as pairs of hexadecimal digits, without separators
abbrev pub pairs : List ℕ → List ℕ
pairs [] = []
pairs (b ∷ bs) = digits 16 2 b ++ pairs bs

-- an identifier: 3 hexadecimal digits, or 8 if it has 29 bits
abbrev pub id_text : Identifier → List ℕ
id_text id = digits 16 (if id.extended then 8 else 3) id.number

-- the text of a payload: the data; for a remote frame `R` (82) and the requested length if it is not 0; for an FD frame
-- a second `#` (35), a digit for its flags from 0 (48) on, and the data
abbrev pub payload_text : Payload → List ℕ
payload_text (Data bytes) = pairs bytes
payload_text (Remote len) = 82 ∷ (if len == 0 then [] else decimal len)
payload_text (Fd flags bytes) = 35 ∷ (48 + flags_number flags) ∷ pairs bytes

-- the written form of an item. The part before the `#` (35) says what kind of item it is: an error message frame has
-- its class there, with bit 29 set (CAN_ERR_FLAG of linux/can.h)
unfoldable pub frame_spelling : Item → List ℕ
frame_spelling (item.Data f) = id_text f.id ++ 35 ∷ payload_text f.payload
frame_spelling (item.Error e) = digits 16 8 (2 ^ 29 + e.class) ++ 35 ∷ pairs e.bytes

-- the text in upper case
abbrev pub upper : List ℕ → List ℕ
upper text = map to_ascii_uppercase text

-- a remote frame that asks for no bytes
abbrev pub AsksForNothing : Item → Type 0
AsksForNothing (item.Data f) = f.payload ≡ Remote 0
AsksForNothing (item.Error e) = ⊥

-- a payload that a frame may carry: at most 8 bytes, a request for at most 8 bytes, or a valid number of bytes of an FD
-- frame
abbrev pub IsPayload : Payload → Type 0
IsPayload (Data bytes) = (length bytes ≤ 8) × IsBytes bytes
IsPayload (Remote len) = len ≤ 8
IsPayload (Fd flags bytes) = IsTrue (is_fd_length (length bytes)) × IsBytes bytes

-- a frame without a flag, or an error message frame
abbrev pub is_plain : Item → Bool
is_plain (item.Data f) = not (is_flagged f.payload)
is_plain (item.Error e) = true

-- a valid item: its identifier, payload or class is within the limits
abbrev pub IsItem : Item → Type 0
IsItem (item.Data f) = IsIdentifier f.id × IsPayload f.payload
IsItem (item.Error e) = (e.class < 2 ^ 29) × (length e.bytes ≡ 8) × IsBytes e.bytes

-- an upper-case text is the written form of the item; for a remote frame of length 0 it may also end in the length `0`
-- (48)
abbrev pub IsSpelling : List ℕ → Item → Type 0
IsSpelling text i = (text ≡ frame_spelling i) ⊎ (AsksForNothing i × (text ≡ frame_spelling i ++ 48 ∷ []))

-- a text spells an item, in either case
abbrev pub Spells : List ℕ → Item → Type 0
Spells text i = IsSpelling (upper text) i
