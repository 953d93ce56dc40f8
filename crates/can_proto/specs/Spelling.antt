use Rattle.std.specs.Prelude.{◌≡◌, ◌<◌, ℕ, ◌+◌, ◌^◌, nat_lt, Bool, true, false}
use Rattle.std.specs.Prelude.{if◌then◌else◌, List, [], ◌∷◌, ◌++◌, Option, Some, None, codes}
use Rattle.std.specs.Fmt.{decimal}
use Rattle.std.specs.List.{All, flat_map}
use Rattle.can_frame.specs.Frames.{CanFrame, ErrorMessage, is_remote, is_fd, payload_len}
use Rattle.can_frame.specs.Frames.{payload_bytes, payload_flags, has_no_flags, flags_number}
use Rattle.can_frame.specs.FrameText.{digits, pairs, id_text}
use Rattle.can_frame.specs.Moments.{moment_text}
use Rattle.can_frame.specs.declared.fd_flags.FdFlags.{FdFlags}
use Rattle.can_frame.specs.declared.item.Item.{Item}
use Rattle.can_frame.specs.declared.item.Item.TheVariants as item
use Rattle.can_confine.specs.Confinement.{ErrorCounts, state_of}
use Rattle.can_confine.specs.declared.state.State.{State}
use Rattle.can_confine.specs.declared.state.State.TheVariants.{Active, Warning, Passive, Off, Down}
use Rattle.can_event.specs.declared.stats.SocketStats.{SocketStats}
use Rattle.can_event.specs.declared.stats.IfaceStats.{IfaceStats}
use Rattle.can_proto.specs.declared.answer.Answer.{Answer}
use Rattle.can_proto.specs.declared.answer.BusLoad.{BusLoad}
use Rattle.can_proto.specs.declared.answer.Answer.TheVariants.{Greeting, Done, Echo, Sent, Stats}
use Rattle.can_proto.specs.declared.answer.Answer.TheVariants.{Status, Load, Faults, Closing, Refused}
use Rattle.can_proto.specs.declared.answer.Origin.{Origin}
use Rattle.can_proto.specs.declared.answer.Origin.TheVariants.{Same, Other}
use Rattle.can_proto.specs.Causes.{cause_text}

-- The texts of replies and received items for a client (socketcand's raw mode; the exact texts are own choice).

-- the number of hexadecimal digits of an error class, at least 3
abbrev pub class_width : ℕ → ℕ
class_width class =
    if nat_lt class (16 ^ 3) then 3 else
    if nat_lt class (16 ^ 4) then 4 else
    if nat_lt class (16 ^ 5) then 5 else
    if nat_lt class (16 ^ 6) then 6 else
    if nat_lt class (16 ^ 7) then 7 else 8

-- the text of an error class, in hexadecimal
abbrev pub class_text : ℕ → List ℕ
class_text class = digits 16 (class_width class) class

-- the text of a frame's identifier, timestamp and data
abbrev pub body_text : CanFrame → ℕ → List ℕ
body_text frame micros =
    id_text frame.id ++ codes " " ++ moment_text micros ++ codes " " ++ pairs (payload_bytes frame.payload)

-- the text of a data frame and its timestamp, without the closing ` >`; if there is no data, two spaces precede the `>`
abbrev pub data_front : CanFrame → ℕ → List ℕ
data_front frame micros = codes "< frame " ++ body_text frame micros

-- the first word of an FD frame's text: `fdframe`, or `fdframex` and the flags as a digit if any is set (own choice)
abbrev pub fd_word : FdFlags → List ℕ
fd_word flags =
    if has_no_flags flags then codes "< fdframe " else codes "< fdframex " ++ (48 + flags_number flags) ∷ codes " "

-- the text of an FD frame and its timestamp, without the closing ` >`
abbrev pub fd_front : CanFrame → ℕ → List ℕ
fd_front frame micros = fd_word (payload_flags frame.payload) ++ body_text frame micros

-- the text of a remote frame, its timestamp and the length that it requests, without the closing ` >`
abbrev pub remote_front : CanFrame → ℕ → List ℕ
remote_front frame micros =
    codes "< remote " ++ id_text frame.id ++ codes " " ++ moment_text micros ++ codes " "
    ++ decimal (payload_len frame.payload)

-- the text of a frame of any kind, without the closing ` >`
abbrev pub frame_front : CanFrame → ℕ → List ℕ
frame_front frame micros =
    if is_remote frame.payload then remote_front frame micros
    else if is_fd frame.payload then fd_front frame micros
    else data_front frame micros

-- the text of an error message frame and its timestamp, with its data if the flag is set
abbrev pub error_text : Bool → ErrorMessage → ℕ → List ℕ
error_text false e micros = codes "< error " ++ class_text e.class ++ codes " " ++ moment_text micros ++ codes " >"
error_text true e micros =
    codes "< error " ++ class_text e.class ++ codes " " ++ moment_text micros ++ codes " " ++ pairs e.bytes
    ++ codes " >"

-- the text of an item that a client's socket received
abbrev pub item_text : Bool → Item → ℕ → List ℕ
item_text errdata (item.Data frame) micros = frame_front frame micros ++ codes " >"
item_text errdata (item.Error e) micros = error_text errdata e micros

-- the text of a frame's origin: the receiving socket's own interface or another one, and the frame's number there
abbrev pub origin_text : Origin → List ℕ
origin_text (Same number) = codes " same " ++ decimal number
origin_text (Other number) = codes " other " ++ decimal number

-- the text of an item with its origin at the end; an error message frame has no origin
abbrev pub item_text_from : Bool → Origin → Item → ℕ → List ℕ
item_text_from errdata origin (item.Data frame) micros = frame_front frame micros ++ origin_text origin ++ codes " >"
item_text_from errdata origin (item.Error e) micros = error_text errdata e micros

-- the origin that the text of an item shows
abbrev pub shown_origin : Item → Origin → Option Origin
shown_origin (item.Data frame) origin = Some origin
shown_origin (item.Error e) origin = None

-- the number of an origin has at most 64 bits
abbrev pub IsOrigin : Origin → Type 0
IsOrigin (Same number) = number < 2 ^ 64
IsOrigin (Other number) = number < 2 ^ 64

-- the item as shown to a client without error data: an error message frame has only its class
abbrev pub without_data : Item → Item
without_data (item.Data frame) = item.Data frame
without_data (item.Error e) = item.Error (record { class = e.class; bytes = [] })

-- the reply to `stats`: the item counts of the socket, then the frame counts of its interface
abbrev pub stats_text : SocketStats → IfaceStats → List ℕ
stats_text s i =
    codes "< stats " ++ decimal s.queued ++ codes " " ++ decimal s.dropped ++ codes " " ++ decimal s.taken
    ++ codes " " ++ decimal i.sent ++ codes " " ++ decimal i.done ++ codes " " ++ decimal i.waiting ++ codes " "
    ++ decimal i.lost ++ codes " " ++ decimal i.refused ++ codes " >"

-- the word for a fault confinement state
abbrev pub state_word : State → List ℕ
state_word Active = codes "active"
state_word Warning = codes "warning"
state_word Passive = codes "passive"
state_word Off = codes "off"
state_word Down = codes "down"

-- the reply to `status`: the state of an interface, its transmit error count and its receive error count
abbrev pub status_text : ErrorCounts → List ℕ
status_text c =
    codes "< status " ++ state_word (state_of c) ++ codes " " ++ decimal c.tec ++ codes " " ++ decimal c.rec
    ++ codes " >"

-- the load of a bus without bit rates
abbrev pub no_bus_load : BusLoad
no_bus_load = record { permille = 0; micros = 0; bitrate = 0; dbitrate = 0 }

-- the reply to `load`: how much of the last whole second the bus was busy, in thousandths; how long it was busy since
-- its start, in microseconds; its nominal bit rate and its data bit rate
abbrev pub load_text : BusLoad → List ℕ
load_text l =
    codes "< load " ++ decimal l.permille ++ codes " " ++ decimal l.micros ++ codes " " ++ decimal l.bitrate
    ++ codes " " ++ decimal l.dbitrate ++ codes " >"

-- the text of a reply to a client
abbrev pub answer_text : Answer → List ℕ
answer_text Greeting = codes "< hi >"
answer_text Done = codes "< ok >"
answer_text Echo = codes "< echo >"
answer_text (Sent number) = codes "< ack " ++ decimal number ++ codes " >"
answer_text (Stats s i) = stats_text s i
answer_text (Status c) = status_text c
answer_text (Load l) = load_text l
answer_text (Faults left) = codes "< faults " ++ decimal left ++ codes " >"
answer_text (Closing c) = codes "< closed " ++ decimal c.unread ++ codes " " ++ decimal c.dropped ++ codes " >"
answer_text (Refused why) = codes "< error " ++ cause_text why ++ codes " >"

-- the names, with a space (32) before each name
abbrev pub spaced : List (List ℕ) → List ℕ
spaced names = flat_map (λ name. 32 ∷ name) names

-- the reply to `interfaces`: the names of all interfaces
abbrev pub interfaces_text : List (List ℕ) → List ℕ
interfaces_text names = codes "< interfaces" ++ spaced names ++ codes " >"

-- the eight counts that `stats` shows; they do not include the error counters of the interface
abbrev pub told_counts : SocketStats → IfaceStats → List ℕ
told_counts s i = s.queued ∷ s.dropped ∷ s.taken ∷ i.sent ∷ i.done ∷ i.waiting ∷ i.lost ∷ i.refused ∷ []

-- each number of the reply has at most 64 bits
abbrev pub FitsIn64 : Answer → Type 0
FitsIn64 (Sent number) = All (λ n. n < 2 ^ 64) (number ∷ [])
FitsIn64 (Stats s i) = All (λ n. n < 2 ^ 64) (told_counts s i)
FitsIn64 (Status c) = All (λ n. n < 2 ^ 64) (c.tec ∷ c.rec ∷ [])
FitsIn64 (Load l) = All (λ n. n < 2 ^ 64) (l.permille ∷ l.micros ∷ l.bitrate ∷ l.dbitrate ∷ [])
FitsIn64 (Faults left) = All (λ n. n < 2 ^ 64) (left ∷ [])
FitsIn64 (Closing c) = All (λ n. n < 2 ^ 64) (c.unread ∷ c.dropped ∷ [])
FitsIn64 _ = Unit {0}

-- the two replies are equal in all that their texts show
abbrev pub AreAlike : Answer → Answer → Type 0
AreAlike (Stats s i) (Stats t j) = told_counts s i ≡ told_counts t j
AreAlike one other = one ≡ other
