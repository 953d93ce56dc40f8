use Rattle.std.specs.Prelude.{ℕ, Bool, true, false, ◌&&◌, ◌||◌, ◌==◌, if◌then◌else◌}
use Rattle.std.specs.Prelude.{List, [], ◌∷◌, Option, Some, None, codes}
use Rattle.can_proto.specs.declared.command.Mode.{Mode}
use Rattle.can_proto.specs.declared.command.Mode.TheVariants.{NoBus, Opened, Raw}
use Rattle.can_proto.specs.declared.verb.Verb.{Verb}
use Rattle.can_proto.specs.declared.verb.Verb.TheVariants.{Echo, Interfaces, Open, Rawmode, OtherMode, Send, SendRtr}
use Rattle.can_proto.specs.declared.verb.Verb.TheVariants.{SendFd, SendFlagged, Filter, Join, Loopback, RecvOwn}
use Rattle.can_proto.specs.declared.verb.Verb.TheVariants.{FdFrames, ErrMask, ErrData, Ack, Origin, Stats, Status}
use Rattle.can_proto.specs.declared.verb.Verb.TheVariants.{Load, Restart, Fault, Faults, NoFaults, Close, Down}

-- The first words of commands and the modes that allow them (socketcand's raw mode; sendfd, sendfdx, filter and the
-- words after filter are own choice).

-- whether two words are equal, byte for byte
abbrev pub is_word : List ℕ → List ℕ → Bool
is_word [] [] = true
is_word (a ∷ as_) (b ∷ bs) = (a == b) && is_word as_ bs
is_word _ _ = false

-- whether the word names one of socketcand's other modes
abbrev pub is_other_mode : List ℕ → Bool
is_other_mode word =
    (is_word word (codes "bcmmode") || is_word word (codes "isotpmode")) || is_word word (codes "controlmode")

-- the command that a first word names
abbrev pub named : List ℕ → Option Verb
named word =
    if is_word word (codes "send") then Some Send else
    if is_word word (codes "sendrtr") then Some SendRtr else
    if is_word word (codes "sendfd") then Some SendFd else
    if is_word word (codes "sendfdx") then Some SendFlagged else
    if is_word word (codes "echo") then Some Echo else
    if is_word word (codes "interfaces") then Some Interfaces else
    if is_word word (codes "open") then Some Open else
    if is_word word (codes "rawmode") then Some Rawmode else
    if is_word word (codes "filter") then Some Filter else
    if is_word word (codes "join") then Some Join else
    if is_word word (codes "loopback") then Some Loopback else
    if is_word word (codes "recvown") then Some RecvOwn else
    if is_word word (codes "fdframes") then Some FdFrames else
    if is_word word (codes "errmask") then Some ErrMask else
    if is_word word (codes "errdata") then Some ErrData else
    if is_word word (codes "ack") then Some Ack else
    if is_word word (codes "origin") then Some Origin else
    if is_word word (codes "stats") then Some Stats else
    if is_word word (codes "status") then Some Status else
    if is_word word (codes "load") then Some Load else
    if is_word word (codes "restart") then Some Restart else
    if is_word word (codes "fault") then Some Fault else
    if is_word word (codes "faults") then Some Faults else
    if is_word word (codes "nofaults") then Some NoFaults else
    if is_word word (codes "close") then Some Close else
    if is_word word (codes "down") then Some Down else
    if is_other_mode word then Some OtherMode else None

-- whether a mode allows a command. `open` is allowed before an interface is opened, and `echo` and `interfaces` until
-- the session ends. The mode commands are allowed once an interface is opened, and the fault commands also in raw mode.
-- Raw mode allows all commands except `open`. A session that has ended allows no commands.
abbrev pub is_allowed_in : Verb → Mode → Bool
is_allowed_in Open NoBus = true
is_allowed_in Open _ = false
is_allowed_in Echo NoBus = true
is_allowed_in Echo Opened = true
is_allowed_in Interfaces NoBus = true
is_allowed_in Interfaces Opened = true
is_allowed_in Rawmode Opened = true
is_allowed_in OtherMode Opened = true
is_allowed_in Fault Opened = true
is_allowed_in Faults Opened = true
is_allowed_in NoFaults Opened = true
is_allowed_in _ Raw = true
is_allowed_in _ _ = false

-- whether a mode allows the command that a first word names
abbrev pub has_verb : Mode → Option Verb → Bool
has_verb mode None = false
has_verb mode (Some verb) = is_allowed_in verb mode

-- whether a mode allows the command that these words begin with
abbrev pub mode_has : Mode → List (List ℕ) → Bool
mode_has mode [] = false
mode_has mode (word ∷ words) = has_verb mode (named word)
