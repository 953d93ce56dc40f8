use Rattle.std.specs.Prelude.{◌≡◌, ◌⊎◌, ℕ, ◌-◌, ◌*◌, ◌^◌, Bool, true, false, IsTrue, ◌&&◌}
use Rattle.std.specs.Prelude.{◌==◌, nat_lt, nat_le, bit_and, if◌then◌else◌, List, []}
use Rattle.std.specs.Prelude.{◌∷◌, ◌++◌, length, Option, Some, None, Result, Ok, Err}
use Rattle.std.specs.List.{join_with_byte}
use Rattle.can_frame.specs.Frames.{Identifier, CanFrame, is_fd_length, no_flags, flags_of}
use Rattle.can_frame.specs.Frames.Payload.{Data, Remote, Fd}
use Rattle.can_frame.specs.declared.fd_flags.FdFlags.{FdFlags}
use Rattle.can_filter.specs.Filters.{CanFilter}
use Rattle.can_event.specs.declared.opt.Opt.TheVariants as opt
use Rattle.can_proto.specs.declared.message.Incoming.TheVariants.{Message}
use Rattle.can_proto.specs.declared.command.Mode.{Mode}
use Rattle.can_proto.specs.declared.command.Mode.TheVariants.{Raw}
use Rattle.can_proto.specs.declared.command.Command.{Command}
use Rattle.can_proto.specs.declared.command.Command.TheVariants.{Echo, Interfaces, Open, Rawmode, Send, SetFilters}
use Rattle.can_proto.specs.declared.command.Command.TheVariants.{SetOption, ErrData, Ack, Origin, Stats, Status}
use Rattle.can_proto.specs.declared.command.Command.TheVariants.{Load, Restart, Fault, Faults, NoFaults, Close, Down}
use Rattle.can_proto.specs.declared.fault.ProtoFault.{ProtoFault}
use Rattle.can_proto.specs.declared.fault.ProtoFault.TheVariants.{NoMemory, InvalidFilter, TooManyFilters}
use Rattle.can_proto.specs.declared.fault.ProtoFault.TheVariants.{EmptyMessage, UnknownCommand, WrongState}
use Rattle.can_proto.specs.declared.fault.ProtoFault.TheVariants.{ModeNotSupported, BadCount, BadId}
use Rattle.can_proto.specs.declared.fault.ProtoFault.TheVariants.{BadLength, BadByte, BadNumber}
use Rattle.can_proto.specs.declared.verb.Verb.{Verb}
use Rattle.can_proto.specs.declared.verb.Verb.TheVariants as verb
use Rattle.can_frame.specs.Numbers.{number_in}
use Rattle.can_proto.specs.Messages.{messages_of, kept_of}
use Rattle.can_proto.specs.Words.{words_of}
use Rattle.can_proto.specs.Verbs.{named, is_allowed_in}

-- How the words of a message are read as a command, and which fault is reported: the first one from left to right. The
-- commands are those of socketcand's raw mode; the faults and their order are own choice.

infixl 10 ◌>>=◌
abbrev pub ◌>>=◌ : {A B : Type 0} → Result A ProtoFault → (A → Result B ProtoFault) → Result B ProtoFault
(Ok x) >>= f = f x
(Err e) >>= f = Err e

-- whether the command needs memory on the heap
abbrev pub keeps_on_heap : Command → Bool
keeps_on_heap (Open name) = true
keeps_on_heap (SetFilters filters) = true
keeps_on_heap (Fault rule) = true
keeps_on_heap _ = false

-- the result is a value that needs memory on the heap
abbrev pub KeepsOnHeap : {A : Type 0} → (A → Bool) → Result A ProtoFault → Type 0
KeepsOnHeap heavy (Ok x) = IsTrue (heavy x)
KeepsOnHeap heavy (Err e) = ⊥

-- the two results are equal, except that `NoMemory` may replace a value that needs memory on the heap
abbrev pub GivesBut : {A : Type 0} → (A → Bool) → Result A ProtoFault → Result A ProtoFault → Type 0
GivesBut heavy (Err NoMemory) read = KeepsOnHeap heavy read
GivesBut heavy answer read = read ≡ answer

-- the two results are equal
abbrev pub GivesAsRead : {A : Type 0} → Result A ProtoFault → Result A ProtoFault → Type 0
GivesAsRead answer read = GivesBut (λ _. false) answer read

-- the value, or the given fault if there is no value
abbrev pub or_fault : {A : Type 0} → ProtoFault → Option A → Result A ProtoFault
or_fault fault None = Err fault
or_fault fault (Some x) = Ok x

-- the identifier word without bit 31, which marks 29-bit identifiers in linux/can.h
abbrev pub cleared : ℕ → ℕ
cleared n = if nat_lt n (2 ^ 31) then n else n - 2 ^ 31

-- the 29-bit identifier with this number, or `BadId`
abbrev pub long_id : Option ℕ → Result Identifier ProtoFault
long_id None = Err BadId
long_id (Some n) =
    if nat_lt (cleared n) (2 ^ 29) then Ok (record { extended = true; number = cleared n }) else Err BadId

-- the 11-bit identifier with this number, or `BadId`
abbrev pub short_id : Option ℕ → Result Identifier ProtoFault
short_id None = Err BadId
short_id (Some n) = if nat_lt n (2 ^ 11) then Ok (record { extended = false; number = n }) else Err BadId

-- the identifier that a word spells: 8 hexadecimal digits for 29 bits, 1 to 3 digits for 11 bits
unfoldable pub id_of : List ℕ → Result Identifier ProtoFault
id_of word = if length word == 8 then long_id (number_in 16 8 word) else short_id (number_in 16 3 word)

-- the length that a word spells: one digit, 0 to 8
unfoldable pub length_of : List ℕ → Result ℕ ProtoFault
length_of (d ∷ []) = if nat_le 48 d && nat_le d 56 then Ok (d - 48) else Err BadLength
length_of _ = Err BadLength

-- the length of an FD frame that a word spells, in decimal without leading zeros
unfoldable pub fd_length_of : List ℕ → Result ℕ ProtoFault
fd_length_of word =
    or_fault BadLength (number_in 10 2 word)
    >>= λ n. if is_fd_length n && length word == (if nat_lt n 10 then 1 else 2) then Ok n else Err BadLength

-- the bytes that the words spell, each in one or two hexadecimal digits
unfoldable pub bytes_of : List (List ℕ) → Result (List ℕ) ProtoFault
bytes_of [] = Ok []
bytes_of (word ∷ words) = do
  b ← or_fault BadByte (number_in 16 2 word)
  bs ← bytes_of words
  Ok (b ∷ bs)

-- the faults that data words can have: a wrong count is reported first, then a word that is not a byte
abbrev pub IsDataFault : ℕ → List (List ℕ) → ProtoFault → Type 0
IsDataFault len words e =
    (((length words == len) ≡ false) × (e ≡ BadCount))
    ⊎ (((length words == len) ≡ true) × (bytes_of words ≡ Err BadByte) × (e ≡ BadByte))

-- the command `send ID LEN b ..`, given the words after `send`
unfoldable pub send_of : List (List ℕ) → Result Command ProtoFault
send_of (id_word ∷ len_word ∷ words) = do
  id ← id_of id_word
  len ← length_of len_word
  if length words == len
      then bytes_of words >>= (λ bytes. Ok (Send (record { id = id; payload = Data bytes })))
      else Err BadCount
send_of _ = Err BadCount

-- the command that sends a frame, or the fault in the frame
abbrev pub asks_to_send : Result CanFrame ProtoFault → Result Command ProtoFault
asks_to_send (Ok frame) = Ok (Send frame)
asks_to_send (Err e) = Err e

-- the command `sendfd ID LEN b ..` for a frame with these flags, given the words after `sendfd`
unfoldable pub send_fd_of : FdFlags → List (List ℕ) → Result Command ProtoFault
send_fd_of flags (id_word ∷ len_word ∷ words) = do
  id ← id_of id_word
  len ← fd_length_of len_word
  if length words == len
      then bytes_of words >>= (λ bytes. Ok (Send (record { id = id; payload = Fd flags bytes })))
      else Err BadCount
send_fd_of flags _ = Err BadCount

-- the flags of an FD frame that a word spells: one digit, 0 to 3 (CANFD_BRS and CANFD_ESI of linux/can.h)
unfoldable pub flags_of_word : List ℕ → Result FdFlags ProtoFault
flags_of_word (d ∷ []) = if nat_le 48 d then or_fault BadNumber (flags_of (d - 48)) else Err BadNumber
flags_of_word _ = Err BadNumber

-- the command `sendfdx FLAGS ID LEN b ..`: the flags, then the arguments of `sendfd`
unfoldable pub send_flagged_of : List (List ℕ) → Result Command ProtoFault
send_flagged_of (word ∷ words) = flags_of_word word >>= λ flags. send_fd_of flags words
send_flagged_of [] = Err BadCount

-- the command `sendrtr ID LEN`, given the words after `sendrtr`
unfoldable pub remote_of : List (List ℕ) → Result Command ProtoFault
remote_of (id_word ∷ len_word ∷ []) = do
  id ← id_of id_word
  len ← length_of len_word
  Ok (Send (record { id = id; payload = Remote len }))
remote_of _ = Err BadCount

-- the filter with this identifier and mask, or a fault if bit 29 of the mask is set
abbrev pub masked : ℕ → ℕ → Result CanFilter ProtoFault
masked id mask = if bit_and mask (2 ^ 29) == 0 then Ok (record { id = id; mask = mask }) else Err InvalidFilter

-- the filter that two words spell: an identifier and a mask, 1 to 8 hexadecimal digits each
unfoldable pub filter_of : List ℕ → List ℕ → Result CanFilter ProtoFault
filter_of id_word mask_word = do
  id ← or_fault BadNumber (number_in 16 8 id_word)
  mask ← or_fault BadNumber (number_in 16 8 mask_word)
  masked id mask

-- the filters that the words spell, two words for each filter
unfoldable pub filters_of : List (List ℕ) → Result (List CanFilter) ProtoFault
filters_of [] = Ok []
filters_of (word ∷ []) = Err BadCount
filters_of (id_word ∷ mask_word ∷ words) = do
  filter ← filter_of id_word mask_word
  filters ← filters_of words
  Ok (filter ∷ filters)

-- the command `filter N ID MASK ..`, given the words after `filter`
unfoldable pub set_of : List (List ℕ) → Result Command ProtoFault
set_of [] = Err BadCount
set_of (count_word ∷ words) = do
  count ← or_fault BadNumber (number_in 10 3 count_word)
  if nat_lt 512 count then Err TooManyFilters
      else if length words == count * 2 then filters_of words >>= (λ filters. Ok (SetFilters filters))
      else Err BadCount

-- the argument of a command that takes exactly one
abbrev pub only : List (List ℕ) → Result (List ℕ) ProtoFault
only (word ∷ []) = Ok word
only _ = Err BadCount

-- the command `errmask HEX`, given the words after `errmask`
unfoldable pub mask_of : List (List ℕ) → Result Command ProtoFault
mask_of words = do
  word ← only words
  mask ← or_fault BadNumber (number_in 16 8 word)
  Ok (SetOption (opt.ErrMask mask))

-- the flag that a word spells: `0` or `1`
abbrev pub flag_of : List ℕ → Option Bool
flag_of (d ∷ []) = if d == 48 then Some false else if d == 49 then Some true else None
flag_of _ = None

-- the flag that is the only argument of a command
unfoldable pub switch_of : List (List ℕ) → Result Bool ProtoFault
switch_of words = only words >>= λ word. or_fault BadNumber (flag_of word)

-- the command `open NAME`, given the words after `open`
unfoldable pub open_of : List (List ℕ) → Result Command ProtoFault
open_of words = only words >>= λ name. Ok (Open name)

-- the command `fault RULE`; single spaces (32) separate the words of the rule
unfoldable pub fault_of : List (List ℕ) → Result Command ProtoFault
fault_of [] = Err BadCount
fault_of words = Ok (Fault (join_with_byte 32 words))

-- this command, if no arguments follow it
abbrev pub alone : Command → List (List ℕ) → Result Command ProtoFault
alone command [] = Ok command
alone command _ = Err BadCount

-- the command that a verb and the words after it spell
unfoldable pub arguments_of : Verb → List (List ℕ) → Result Command ProtoFault
arguments_of verb.Echo words = alone Echo words
arguments_of verb.Interfaces words = alone Interfaces words
arguments_of verb.Open words = open_of words
arguments_of verb.Rawmode words = alone Rawmode words
arguments_of verb.OtherMode words = Err ModeNotSupported
arguments_of verb.Send words = send_of words
arguments_of verb.SendRtr words = remote_of words
arguments_of verb.SendFd words = send_fd_of no_flags words
arguments_of verb.SendFlagged words = send_flagged_of words
arguments_of verb.Filter words = set_of words
arguments_of verb.Join words = switch_of words >>= λ on. Ok (SetOption (opt.Join on))
arguments_of verb.Loopback words = switch_of words >>= λ on. Ok (SetOption (opt.Loopback on))
arguments_of verb.RecvOwn words = switch_of words >>= λ on. Ok (SetOption (opt.RecvOwn on))
arguments_of verb.ErrMask words = mask_of words
arguments_of verb.FdFrames words = switch_of words >>= λ on. Ok (SetOption (opt.FdFrames on))
arguments_of verb.ErrData words = switch_of words >>= λ on. Ok (ErrData on)
arguments_of verb.Ack words = switch_of words >>= λ on. Ok (Ack on)
arguments_of verb.Origin words = switch_of words >>= λ on. Ok (Origin on)
arguments_of verb.Stats words = alone Stats words
arguments_of verb.Status words = alone Status words
arguments_of verb.Load words = alone Load words
arguments_of verb.Restart words = alone Restart words
arguments_of verb.Fault words = fault_of words
arguments_of verb.Faults words = alone Faults words
arguments_of verb.NoFaults words = alone NoFaults words
arguments_of verb.Close words = alone Close words
arguments_of verb.Down words = alone Down words

-- the command that a verb and the words after it spell, if the mode allows the verb
abbrev pub command_of : Mode → List (List ℕ) → Option Verb → Result Command ProtoFault
command_of mode words None = Err UnknownCommand
command_of mode words (Some v) = if is_allowed_in v mode then arguments_of v words else Err WrongState

-- the command that the words of a message spell in a mode
abbrev pub reading : Mode → List (List ℕ) → Result Command ProtoFault
reading mode [] = Err EmptyMessage
reading mode (word ∷ words) = command_of mode words (named word)

-- the stream has one message, which sends this frame in raw mode, and the reader keeps no bytes of the stream
abbrev pub IsLoneSend : List ℕ → CanFrame → Type 0
IsLoneSend stream frame =
    (inside : List ℕ)
    × (messages_of stream ≡ Message inside ∷ [])
    × (kept_of stream ≡ [])
    × (reading Raw (words_of inside) ≡ Ok (Send frame))

-- the result of reading more items, with the items already read in front of them
abbrev pub with_front : {A : Type 0} → List A → Result (List A) ProtoFault → Result (List A) ProtoFault
with_front items read = read >>= λ more. Ok (items ++ more)

-- the faults that a filter can have
abbrev pub IsFilterFault : ProtoFault → Type 0
IsFilterFault e = (e ≡ BadNumber) ⊎ (e ≡ InvalidFilter)
