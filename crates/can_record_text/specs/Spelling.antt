use Rattle.std.specs.Prelude.{ℕ, ◌==◌, ◌||◌, ◌&&◌, not, nat_lt, Bool, true, false, List, []}
use Rattle.std.specs.Prelude.{◌∷◌, ◌++◌, length, codes, decimal, Some, None, if◌then◌else◌}
use Rattle.can_frame.specs.Frames.{CanFrame, is_fd, is_flagged}
use Rattle.can_frame.specs.declared.iface.IfaceSet.{IfaceSet}
use Rattle.can_frame.specs.declared.item.Item.{Item}
use Rattle.can_frame.specs.declared.item.Item.TheVariants as item
use Rattle.can_frame.specs.FrameText.{digits, frame_spelling}
use Rattle.can_frame.specs.Moments.{moment_text}
use Rattle.can_filter.specs.Filters.{CanFilter}
use Rattle.can_fault.specs.declared.verdict.GlobalKind.TheVariants as global
use Rattle.can_fault.specs.declared.verdict.LocalKind.{LocalKind}
use Rattle.can_fault.specs.declared.verdict.LocalKind.TheVariants as local
use Rattle.can_fault.specs.declared.verdict.Verdict.{Verdict}
use Rattle.can_fault.specs.declared.verdict.Verdict.TheVariants as verdict
use Rattle.can_attempt.specs.declared.ack_mode.AckMode.{AckMode}
use Rattle.can_attempt.specs.declared.ack_mode.AckMode.TheVariants as ack
use Rattle.can_attempt.specs.Words.{class_word}
use Rattle.can_event.specs.declared.bus_config.BusConfig.{BusConfig}
use Rattle.can_event.specs.declared.opt.Opt.{Opt}
use Rattle.can_event.specs.declared.opt.Opt.TheVariants as opt
use Rattle.can_event.specs.declared.event.Event.{Event}
use Rattle.can_event.specs.declared.event.Event.TheVariants.{Open, Close, SetFilters, SetOption}
use Rattle.can_event.specs.declared.event.Event.TheVariants.{Send, Receive, Attempt, Restart, Down}
use Rattle.can_event.specs.declared.refusal.Refusal.{Refusal}
use Rattle.can_event.specs.declared.refusal.Refusal.TheVariants as refusal
use Rattle.can_event.specs.declared.received.Received.{Received}
use Rattle.can_event.specs.declared.reply.Reply.{Reply}
use Rattle.can_event.specs.declared.attempt.Attempt.TheVariants as attempt
use Rattle.can_event.specs.declared.reply.Reply.TheVariants as reply
use Rattle.can_event.specs.declared.entry.Entry.{Entry}
use Rattle.can_event.specs.declared.socket_id.SocketId.{SocketId}
use Rattle.can_event.specs.Events.{max_limit}
use Rattle.can_event.specs.Replies.{entry_of}
use Rattle.can_record_text.specs.declared.needs.Needs.{Needs}
use Rattle.can_record_text.specs.declared.version.Version.{Version}
use Rattle.can_record_text.specs.declared.version.Version.TheVariants as version

-- The spelling of the lines of a record (own choice).

-- The byte that ends a word: a space, or LF if no word follows.
abbrev pub gap_before : List (List ℕ) → ℕ
gap_before [] = 10
gap_before (w ∷ ws) = 32

-- The line with these words: a space between words and LF after the last word. The text after the line is appended.
abbrev pub spell : List (List ℕ) → List ℕ → List ℕ
spell [] rest = rest
spell (w ∷ ws) rest = w ++ gap_before ws ∷ spell ws rest

-- A set of interfaces: 4 hexadecimal digits.
unfoldable pub set_word : IfaceSet → List ℕ
set_word set = digits 16 4 set.0

-- A word of 32 bits: 8 hexadecimal digits.
unfoldable pub mask_word : ℕ → List ℕ
mask_word n = digits 16 8 n

-- A moment: seconds, a point and six digits of microseconds.
unfoldable pub moment_word : ℕ → List ℕ
moment_word micros = moment_text micros

-- A flag: 0 or 1.
abbrev pub flag_word : Bool → List ℕ
flag_word false = codes "0"
flag_word true = codes "1"

-- Filters: the identifier word and the mask of each filter, in 8 hexadecimal digits.
abbrev pub filter_words : List CanFilter → List (List ℕ)
filter_words [] = []
filter_words (f ∷ fs) = mask_word f.id ∷ mask_word f.mask ∷ filter_words fs

-- The number of filters, and the words of each filter.
abbrev pub counted_filters : List CanFilter → List (List ℕ)
counted_filters filters = decimal (length filters) ∷ filter_words filters

-- An option of a socket and its value. An error mask has 8 hexadecimal digits.
abbrev pub option_words : Opt → List (List ℕ)
option_words (opt.Loopback on) = codes "loopback" ∷ flag_word on ∷ []
option_words (opt.RecvOwn on) = codes "recvown" ∷ flag_word on ∷ []
option_words (opt.Join on) = codes "join" ∷ flag_word on ∷ []
option_words (opt.ErrMask mask) = codes "errmask" ∷ mask_word mask ∷ []
option_words (opt.FdFrames on) = codes "fd" ∷ flag_word on ∷ []

-- The kind of a local fault, and a colon.
abbrev pub local_front : LocalKind → List ℕ
local_front local.Stuff = codes "local-stuff:"
local_front local.Crc = codes "local-crc:"
local_front local.Form = codes "local-form:"

-- A verdict, with the interfaces that see a local fault.
abbrev pub verdict_word : Verdict → List ℕ
verdict_word verdict.Good = codes "good"
verdict_word (verdict.Global global.Bit) = codes "global-bit"
verdict_word (verdict.Global global.Form) = codes "global-form"
verdict_word verdict.LastBit = codes "lastbit"
verdict_word (verdict.Local set kind) = local_front kind ++ set_word set

-- The acknowledgement mode.
abbrev pub ack_word : AckMode → List ℕ
ack_word ack.Always = codes "always"
ack_word ack.Peers = codes "peers"

-- The name of a refusal. A call that is refused for a full record or for lack of memory has no line.
abbrev pub refusal_words : Refusal → List (List ℕ)
refusal_words refusal.NoInterface = codes "no-interface" ∷ []
refusal_words refusal.BadCapacity = codes "bad-capacity" ∷ []
refusal_words refusal.TooManySockets = codes "too-many-sockets" ∷ []
refusal_words refusal.NoSocket = codes "no-socket" ∷ []
refusal_words refusal.FdOff = codes "fd-off" ∷ []
refusal_words refusal.BusOff = codes "bus-off" ∷ []
refusal_words refusal.NoBuffers = codes "no-buffers" ∷ []
refusal_words refusal.NotBusOff = codes "not-bus-off" ∷ []
refusal_words refusal.RecordFull = []
refusal_words refusal.NoMemory = []
refusal_words refusal.Down = codes "interface-down" ∷ []

-- An event: the name of the call, and its arguments.
abbrev pub event_words : Event → List (List ℕ)
event_words (Open i capacity) = codes "open" ∷ decimal i ∷ decimal capacity ∷ []
event_words (Close s) = codes "close" ∷ decimal s.0 ∷ []
event_words (SetFilters s filters) = codes "filters" ∷ decimal s.0 ∷ counted_filters filters
event_words (SetOption s option) = codes "option" ∷ decimal s.0 ∷ option_words option
event_words (Send s frame) = codes "send" ∷ decimal s.0 ∷ frame_spelling (item.Data frame) ∷ []
event_words (Receive s) = codes "receive" ∷ decimal s.0 ∷ []
event_words (Attempt m verdict) = codes "attempt" ∷ moment_word m ∷ verdict_word verdict ∷ []
event_words (Restart i m) = codes "restart" ∷ decimal i ∷ moment_word m ∷ []
event_words (Down i m) = codes "down" ∷ decimal i ∷ moment_word m ∷ []

-- A received item: the interface that it comes from, its number if it is a frame, the item, and the moment at which the
-- socket got it.
abbrev pub received_words : Item → Received → List (List ℕ)
received_words (item.Data f) r =
    codes "data" ∷ decimal r.from ∷ decimal r.number ∷ frame_spelling r.item ∷ moment_word r.moment ∷ []
received_words (item.Error e) r = codes "error" ∷ decimal r.from ∷ frame_spelling r.item ∷ moment_word r.moment ∷ []

-- The interfaces that an attempt restarted, if there are any.
abbrev pub restarted_words : IfaceSet → List (List ℕ)
restarted_words set = if set.0 == 0 then [] else codes "restarted" ∷ set_word set ∷ []

-- A reply. A frame was tried at the moment of its attempt, so that moment is not repeated.
abbrev pub reply_words : Reply → List (List ℕ)
reply_words (reply.Opened s) = codes "socket" ∷ decimal s.0 ∷ []
reply_words (reply.Closed c) = codes "closed" ∷ decimal c.unread ∷ decimal c.dropped ∷ []
reply_words reply.Done = codes "ok" ∷ []
reply_words (reply.Sent n) = codes "number" ∷ decimal n ∷ []
reply_words (reply.Received None) = codes "none" ∷ []
reply_words (reply.Received (Some r)) = received_words r.item r
reply_words (reply.Attempted (attempt.Idle restarted)) = codes "idle" ∷ restarted_words restarted
reply_words (reply.Attempted (attempt.Tried t)) =
    codes "tried" ∷ decimal t.winner ∷ decimal t.number ∷ frame_spelling (item.Data t.frame) ∷ class_word t.class
    ∷ set_word t.accepted ∷ set_word t.off ∷ restarted_words t.restarted
reply_words (reply.Refused why) = refusal_words why

-- A reply, up to the end of its line.
abbrev pub reply_text : Reply → List ℕ
reply_text r = spell (reply_words r) []

-- An entry: its event, `=`, and its reply.
abbrev pub entry_words : Entry → List (List ℕ)
entry_words e = event_words e.event ++ codes "=" ∷ reply_words e.reply

-- The line of an entry, and the text after it.
abbrev pub entry_line : Entry → List ℕ → List ℕ
entry_line e rest = spell (entry_words e) rest

-- The line of an event with this reply, and the text after it.
abbrev pub answered_line : Event → Reply → List ℕ → List ℕ
answered_line e r rest = entry_line (entry_of e r) rest

-- The line of a receive call with this reply.
abbrev pub receive_line : SocketId → Reply → List ℕ
receive_line id r = answered_line (Receive id) r []

-- The line of an attempt with this reply.
abbrev pub attempt_line : ℕ → Verdict → Reply → List ℕ
attempt_line moment verdict r = answered_line (Attempt moment verdict) r []

-- The needs of lines that have no feature of the later versions.
abbrev pub no_needs : Needs
no_needs = record { fd = false; flags = false; down = false }

-- The combined needs of two parts of a text.
abbrev pub both_needs : Needs → Needs → Needs
both_needs a b = record { fd = a.fd || b.fd; flags = a.flags || b.flags; down = a.down || b.down }

-- The needs of the option for FD frames.
abbrev pub option_needs : Needs
option_needs = record { fd = true; flags = false; down = false }

-- The needs of a call that takes an interface down, or of a refusal because it is down.
abbrev pub down_needs : Needs
down_needs = record { fd = false; flags = false; down = true }

-- The needs of a frame.
abbrev pub frame_needs : CanFrame → Needs
frame_needs f = record { fd = is_fd f.payload; flags = is_flagged f.payload; down = false }

-- The needs of an item.
abbrev pub item_needs : Item → Needs
item_needs (item.Data f) = frame_needs f
item_needs (item.Error e) = no_needs

-- The needs of an event: those of the frame that it sends, of the option for FD frames, or of taking an interface down.
abbrev pub event_needs : Event → Needs
event_needs (SetOption s (opt.FdFrames on)) = option_needs
event_needs (Send s frame) = frame_needs frame
event_needs (Down i m) = down_needs
event_needs _ = no_needs

-- The needs of a refusal.
abbrev pub refusal_needs : Refusal → Needs
refusal_needs refusal.Down = down_needs
refusal_needs _ = no_needs

-- The needs of a reply: those of its frame or of its refusal.
abbrev pub reply_needs : Reply → Needs
reply_needs (reply.Received (Some r)) = item_needs r.item
reply_needs (reply.Attempted (attempt.Tried t)) = frame_needs t.frame
reply_needs (reply.Refused why) = refusal_needs why
reply_needs _ = no_needs

-- The needs of an entry.
abbrev pub needs_of : Entry → Needs
needs_of e = both_needs (event_needs e.event) (reply_needs e.reply)

-- The needs of a list of entries.
abbrev pub all_needs : List Entry → Needs
all_needs [] = no_needs
all_needs (e ∷ es) = both_needs (needs_of e) (all_needs es)

-- Whether the version has lines for FD frames and for the option for FD frames.
abbrev pub takes_fd : Version → Bool
takes_fd version.One = false
takes_fd version.Two = false
takes_fd version.Three = true
takes_fd version.Four = true
takes_fd version.Five = true
takes_fd version.Six = true

-- Whether the version has lines for FD frames with flags.
abbrev pub takes_flags : Version → Bool
takes_flags version.One = false
takes_flags version.Two = false
takes_flags version.Three = false
takes_flags version.Four = true
takes_flags version.Five = true
takes_flags version.Six = true

-- Whether the version has lines for interfaces that go down or are down. The version of long runs has them, since its
-- first line is written before any entry.
abbrev pub takes_down : Version → Bool
takes_down version.One = false
takes_down version.Two = false
takes_down version.Three = false
takes_down version.Four = true
takes_down version.Five = false
takes_down version.Six = true

-- Whether the version has lines for all of these needs.
abbrev pub takes : Version → Needs → Bool
takes v needs =
    (not needs.fd || takes_fd v) && (not needs.flags || takes_flags v) && (not needs.down || takes_down v)

-- Whether lines with these needs do not require this version. Version 3 is for an FD frame or the option for FD frames,
-- version 5 for a flag of an FD frame, and version 6 for an interface that goes down or is down.
abbrev pub is_needless : Version → Needs → Bool
is_needless version.One needs = false
is_needless version.Two needs = false
is_needless version.Three needs = not needs.fd
is_needless version.Four needs = false
is_needless version.Five needs = not needs.flags
is_needless version.Six needs = not needs.down

-- The version for a bus: 4 if only a long run can have its limit. Otherwise it is the first of these whose condition
-- holds: 6 if a call takes an interface down or is refused because its interface is down; 5 if an FD frame has a flag;
-- 3 if there is an FD frame or the option for FD frames; 2 if interfaces are restarted automatically; otherwise 1.
abbrev pub version_for : BusConfig → Needs → Version
version_for c needs =
    if nat_lt max_limit c.limit then version.Four
    else if needs.down then version.Six
    else if needs.flags then version.Five
    else if needs.fd then version.Three
    else if c.auto_restart == 0 then version.One
    else version.Two

-- The version of the text of a record.
abbrev pub version_of : BusConfig → List Entry → Version
version_of c entries = version_for c (all_needs entries)

-- The first line, which names the version.
abbrev pub first_line : Version → List ℕ
first_line version.One = codes "canbus record 1" ++ 10 ∷ []
first_line version.Two = codes "canbus record 2" ++ 10 ∷ []
first_line version.Three = codes "canbus record 3" ++ 10 ∷ []
first_line version.Four = codes "canbus record 4" ++ 10 ∷ []
first_line version.Five = codes "canbus record 5" ++ 10 ∷ []
first_line version.Six = codes "canbus record 6" ++ 10 ∷ []

-- From version 2 on: the number of attempts until an interface that went bus off is restarted. From version 3 on it may
-- be 0.
abbrev pub auto_restart_words : Version → BusConfig → List (List ℕ)
auto_restart_words version.One c = []
auto_restart_words version.Two c = decimal c.auto_restart ∷ []
auto_restart_words version.Three c = decimal c.auto_restart ∷ []
auto_restart_words version.Four c = decimal c.auto_restart ∷ []
auto_restart_words version.Five c = decimal c.auto_restart ∷ []
auto_restart_words version.Six c = decimal c.auto_restart ∷ []

-- The bus configuration: the number of interfaces, the acknowledgement mode, the interfaces with fault reporting, the
-- capacity of a transmit queue, and the limit.
abbrev pub bus_words : Version → BusConfig → List (List ℕ)
bus_words v c =
    codes "bus" ∷ decimal c.ifaces ∷ ack_word c.ack ∷ set_word c.reporting ∷ decimal c.tx_capacity ∷ decimal c.limit
    ∷ auto_restart_words v c

-- The first two lines of a version, and the text after them.
abbrev pub front_lines : Version → BusConfig → List ℕ → List ℕ
front_lines v c rest = first_line v ++ spell (bus_words v c) rest

-- The last line, with the number of entries.
abbrev pub end_words : ℕ → List (List ℕ)
end_words count = codes "end" ∷ decimal count ∷ []

-- The lines of these entries, and the text after them.
unfoldable pub entry_lines : List Entry → List ℕ → List ℕ
entry_lines [] rest = rest
entry_lines (e ∷ es) rest = entry_line e (entry_lines es rest)

-- The text of a record in a version: the first two lines, a line for each entry, the oldest first, and the last line.
abbrev pub text_in : Version → BusConfig → List Entry → List ℕ
text_in v c entries = front_lines v c (entry_lines entries (spell (end_words (length entries)) []))

-- The text of a record, in its version.
abbrev pub record_spelling : BusConfig → List Entry → List ℕ
record_spelling c entries = text_in (version_of c entries) c entries
