use Rattle.std.specs.Prelude.{◌≡◌, ◌<◌, ◌≤◌, ℕ, ◌+◌, ◌^◌, Bool, true, false, if◌then◌else◌}
use Rattle.std.specs.Prelude.{List, [], ◌∷◌, ◌++◌, length, map, codes, bit_and}
use Rattle.std.specs.Fmt.{decimal}
use Rattle.std.specs.List.{All, flat_map, join_with_byte}
use Rattle.can_frame.specs.Frames.{Identifier, IsIdentifier, Payload, has_no_flags, flags_number}
use Rattle.can_frame.specs.Frames.Payload.{Data, Remote, Fd}
use Rattle.can_frame.specs.FrameText.{digits, id_text, IsPayload}
use Rattle.can_frame.specs.declared.fd_flags.FdFlags.{FdFlags}
use Rattle.can_filter.specs.Filters.{CanFilter}
use Rattle.can_event.specs.declared.opt.Opt.{Opt}
use Rattle.can_event.specs.declared.opt.Opt.TheVariants as opt
use Rattle.can_proto.specs.declared.command.Command.{Command}
use Rattle.can_proto.specs.declared.command.Command.TheVariants.{Echo, Interfaces, Open, Rawmode, Send, SetFilters}
use Rattle.can_proto.specs.declared.command.Command.TheVariants.{SetOption, ErrData, Ack, Origin, Stats, Status}
use Rattle.can_proto.specs.declared.command.Command.TheVariants.{Load, Restart, Fault, Faults, NoFaults, Close, Down}
use Rattle.can_proto.specs.Words.{front, words_of}

-- The spelling of a client's commands (socketcand's raw mode; filters and options are own choice). A server also
-- accepts other spellings: lower case, fewer digits, and more blanks.

-- the text of a flag: `0` (48) or `1` (49)
abbrev pub flag_text : Bool → List ℕ
flag_text false = 48 ∷ []
flag_text true = 49 ∷ []

-- the first words of the command that sends an FD frame: `sendfd`, or `sendfdx` and the flags if any is set
abbrev pub fd_verb_words : FdFlags → List (List ℕ)
fd_verb_words flags =
    if has_no_flags flags then codes "sendfd" ∷ [] else codes "sendfdx" ∷ ((48 + flags_number flags) ∷ []) ∷ []

-- the words of the command that sends a frame. A data frame or an FD frame has its length and each byte in two digits;
-- a remote frame has the length it requests.
abbrev pub frame_words : Identifier → Payload → List (List ℕ)
frame_words id (Data bytes) = codes "send" ∷ id_text id ∷ decimal (length bytes) ∷ map (digits 16 2) bytes
frame_words id (Remote len) = codes "sendrtr" ∷ id_text id ∷ decimal len ∷ []
frame_words id (Fd flags bytes) = fd_verb_words flags ++ id_text id ∷ decimal (length bytes) ∷ map (digits 16 2) bytes

-- the words of a filter: its identifier and its mask, 8 hexadecimal digits each
abbrev pub filter_command_words : CanFilter → List (List ℕ)
filter_command_words f = digits 16 8 f.id ∷ digits 16 8 f.mask ∷ []

-- the words of the command that sets an option
abbrev pub option_command_words : Opt → List (List ℕ)
option_command_words (opt.Loopback on) = codes "loopback" ∷ flag_text on ∷ []
option_command_words (opt.RecvOwn on) = codes "recvown" ∷ flag_text on ∷ []
option_command_words (opt.Join on) = codes "join" ∷ flag_text on ∷ []
option_command_words (opt.ErrMask mask) = codes "errmask" ∷ digits 16 8 mask ∷ []
option_command_words (opt.FdFrames on) = codes "fdframes" ∷ flag_text on ∷ []

-- the words of a command
abbrev pub command_words : Command → List (List ℕ)
command_words Echo = codes "echo" ∷ []
command_words Interfaces = codes "interfaces" ∷ []
command_words (Open name) = codes "open" ∷ name ∷ []
command_words Rawmode = codes "rawmode" ∷ []
command_words (Send frame) = frame_words frame.id frame.payload
command_words (SetFilters filters) = codes "filter" ∷ decimal (length filters) ∷ flat_map filter_command_words filters
command_words (SetOption option) = option_command_words option
command_words (ErrData on) = codes "errdata" ∷ flag_text on ∷ []
command_words (Ack on) = codes "ack" ∷ flag_text on ∷ []
command_words (Origin on) = codes "origin" ∷ flag_text on ∷ []
command_words Stats = codes "stats" ∷ []
command_words Status = codes "status" ∷ []
command_words Load = codes "load" ∷ []
command_words Restart = codes "restart" ∷ []
command_words (Fault rule) = codes "fault" ∷ words_of rule
command_words Faults = codes "faults" ∷ []
command_words NoFaults = codes "nofaults" ∷ []
command_words Close = codes "close" ∷ []
command_words Down = codes "down" ∷ []

-- the text of a command: its words, separated by single spaces (32)
abbrev pub command_spelling : Command → List ℕ
command_spelling command = join_with_byte 32 (command_words command)

-- the text is one word: at least one byte, and no blanks
abbrev pub IsWord : List ℕ → Type 0
IsWord word = (0 < length word) × (front word ≡ word)

-- the text has at least one word, single spaces (32) between words, and no other blanks
abbrev pub AreSpaced : List ℕ → Type 0
AreSpaced text = (0 < length (words_of text)) × (join_with_byte 32 (words_of text) ≡ text)

-- a filter of two 32-bit words, with bit 29 of the mask clear
abbrev pub IsFilter : CanFilter → Type 0
IsFilter f = (f.id < 2 ^ 32) × (f.mask < 2 ^ 32) × (bit_and f.mask (2 ^ 29) ≡ 0)

-- a valid option: an error mask has at most 32 bits
abbrev pub IsOption : Opt → Type 0
IsOption (opt.ErrMask mask) = mask < 2 ^ 32
IsOption _ = Unit {0}

-- a command that can be written: its name is one word, the words of its rule are separated by single spaces, and its
-- frame, filters and masks are within their limits
abbrev pub IsCommand : Command → Type 0
IsCommand (Open name) = IsWord name
IsCommand (Send frame) = IsIdentifier frame.id × IsPayload frame.payload
IsCommand (SetFilters filters) = (length filters ≤ 512) × All IsFilter filters
IsCommand (SetOption option) = IsOption option
IsCommand (Fault rule) = AreSpaced rule
IsCommand _ = Unit {0}
