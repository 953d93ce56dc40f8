use Rattle.std.specs.Prelude.{ℕ, ◌-◌, ◌/◌, ◌^◌, ◌==◌, ◌&&◌, nat_lt, nat_le, Bool, true, false}
use Rattle.std.specs.Prelude.{if◌then◌else◌, List, length, take, drop, slice_index, Option, Some, None}
use Rattle.std.specs.Result.{result_ok}
use Rattle.std.specs.Option.{option_map, option_and_then}
use Rattle.hex.specs.Hex.{decode_sized}
use Rattle.can_frame.specs.Numbers.{number_in}
use Rattle.can_frame.specs.Frames.{Identifier, Payload, is_fd_length, flags_of}
use Rattle.can_frame.specs.Frames.Payload.{Data, Remote, Fd}
use Rattle.can_frame.specs.declared.fd_flags.FdFlags.{FdFlags}
use Rattle.can_frame.specs.declared.item.Item.{Item}
use Rattle.can_frame.specs.declared.item.Item.TheVariants as item

-- The item that an upper-case text may spell. The guess is written again and compared with the text (own choice).

-- the bytes that pairs of hexadecimal digits spell
unfoldable pub bytes_in : ℕ → List ℕ → Option (List ℕ)
bytes_in n text = result_ok (decode_sized text n)

-- whether the text has this byte at this place
abbrev pub has_byte_at : ℕ → ℕ → List ℕ → Bool
has_byte_at mark k text = nat_lt k (length text) && slice_index text k == mark

-- the length that a remote frame requests: 0 if the text is empty, otherwise one digit up to 8
unfoldable pub request_in : List ℕ → Option ℕ
request_in text =
    if length text == 0 then Some 0
    else if nat_le 48 (slice_index text 0) && nat_le (slice_index text 0) 56 then Some (slice_index text 0 - 48)
    else None

-- the data: at most 8 bytes
unfoldable pub data_in : List ℕ → Option (List ℕ)
data_in text = if nat_le (length text / 2) 8 then bytes_in (length text / 2) text else None

-- the data of an FD frame: its number of bytes has to be a valid FD length
unfoldable pub fd_data_in : List ℕ → Option (List ℕ)
fd_data_in text = if is_fd_length (length text / 2) then bytes_in (length text / 2) text else None

-- the flags of an FD frame: a digit from 0 (48) on
unfoldable pub flags_in : List ℕ → Option FdFlags
flags_in text =
    if length text == 0 then None
    else if nat_le 48 (slice_index text 0) then flags_of (slice_index text 0 - 48)
    else None

-- the text after the second `#` of an FD frame: flags and data
unfoldable pub fd_in : List ℕ → Option Payload
fd_in text = option_and_then (λ flags. option_map (Fd flags) (fd_data_in (drop 1 text))) (flags_in text)

-- the text after the first `#` of a frame: `R` (82) and a length, or a second `#` (35) and the flags and data of an FD
-- frame, or data
unfoldable pub payload_in : List ℕ → Option Payload
payload_in text =
    if has_byte_at 82 0 text then option_map Remote (request_in (drop 1 text))
    else if has_byte_at 35 0 text then fd_in (drop 1 text)
    else option_map Data (data_in text)

-- a frame with this identifier
unfoldable pub frame_in : Identifier → List ℕ → Option Item
frame_in id text = option_map (λ payload. item.Data (record { id = id; payload = payload })) (payload_in text)

-- an error message frame of this class
unfoldable pub error_in : ℕ → List ℕ → Option Item
error_in class text =
    if nat_lt class (2 ^ 29)
    then option_map (λ bytes. item.Error (record { class = class; bytes = bytes })) (bytes_in 8 text)
    else None

-- a number of 3 digits is an identifier of 11 bits
unfoldable pub standard_in : ℕ → List ℕ → Option Item
standard_in n text = if nat_lt n (2 ^ 11) then frame_in (record { extended = false; number = n }) text else None

-- a number of 8 digits is an identifier of 29 bits, or a class with bit 29 set
unfoldable pub long_in : ℕ → List ℕ → Option Item
long_in n text =
    if nat_lt n (2 ^ 29) then frame_in (record { extended = true; number = n }) text else error_in (n - 2 ^ 29) text

-- 3 digits, the `#`, and the rest
unfoldable pub short_item_in : List ℕ → Option Item
short_item_in text = option_and_then (λ n. standard_in n (drop 4 text)) (number_in 16 3 (take 3 text))

-- 8 digits, the `#`, and the rest
unfoldable pub long_item_in : List ℕ → Option Item
long_item_in text = option_and_then (λ n. long_in n (drop 9 text)) (number_in 16 8 (take 8 text))

-- the `#` (35) is after 3 digits or after 8
unfoldable pub item_in : List ℕ → Option Item
item_in text =
    if has_byte_at 35 3 text then short_item_in text else if has_byte_at 35 8 text then long_item_in text else None
