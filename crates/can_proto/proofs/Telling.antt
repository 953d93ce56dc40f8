-- The words of a cause determine it.
use Rattle.std.proofs.Common.{◌≡◌, ℕ, List, if◌then◌else◌, codes, refl, sym, ap, ◌∙◌}
use Rattle.can_proto.specs.declared.answer.Cause.{Cause}
use Rattle.can_proto.specs.declared.answer.Cause.TheVariants as cause
use Rattle.can_proto.specs.Causes.{cause_text}
use Rattle.can_proto.specs.Verbs.{is_word}

-- the cause with these words
abbrev cause_in : List ℕ → Cause
cause_in text =
    if is_word text (codes "record full") then cause.RecordFull else
    if is_word text (codes "no such interface") then cause.NoInterface else
    if is_word text (codes "bad capacity") then cause.BadCapacity else
    if is_word text (codes "too many sockets") then cause.TooManySockets else
    if is_word text (codes "no socket") then cause.NoSocket else
    if is_word text (codes "fd frames off") then cause.FdOff else
    if is_word text (codes "bus off") then cause.BusOff else
    if is_word text (codes "no buffers") then cause.NoBuffers else
    if is_word text (codes "not bus off") then cause.NotBusOff else
    if is_word text (codes "too many passes") then cause.TooManyPasses else
    if is_word text (codes "invalid filter") then cause.InvalidFilter else
    if is_word text (codes "too many filters") then cause.TooManyFilters else
    if is_word text (codes "empty message") then cause.EmptyMessage else
    if is_word text (codes "unknown command") then cause.UnknownCommand else
    if is_word text (codes "wrong state") then cause.WrongState else
    if is_word text (codes "mode not supported") then cause.ModeNotSupported else
    if is_word text (codes "bad word count") then cause.BadCount else
    if is_word text (codes "bad id") then cause.BadId else
    if is_word text (codes "bad length") then cause.BadLength else
    if is_word text (codes "bad byte") then cause.BadByte else
    if is_word text (codes "bad number") then cause.BadNumber else
    if is_word text (codes "message too long") then cause.MessageTooLong else
    if is_word text (codes "too many sessions") then cause.TooManySessions else
    if is_word text (codes "wrong station") then cause.WrongStation else
    if is_word text (codes "bad rule") then cause.BadRule else
    if is_word text (codes "too many rules") then cause.TooManyRules else
    if is_word text (codes "interface down") then cause.Down else
    cause.NoMemory

told : (c : Cause) → cause_in (cause_text c) ≡ c
told cause.NoMemory = refl
told cause.RecordFull = refl
told cause.NoInterface = refl
told cause.BadCapacity = refl
told cause.TooManySockets = refl
told cause.NoSocket = refl
told cause.FdOff = refl
told cause.BusOff = refl
told cause.NoBuffers = refl
told cause.NotBusOff = refl
told cause.TooManyPasses = refl
told cause.InvalidFilter = refl
told cause.TooManyFilters = refl
told cause.EmptyMessage = refl
told cause.UnknownCommand = refl
told cause.WrongState = refl
told cause.ModeNotSupported = refl
told cause.BadCount = refl
told cause.BadId = refl
told cause.BadLength = refl
told cause.BadByte = refl
told cause.BadNumber = refl
told cause.MessageTooLong = refl
told cause.TooManySessions = refl
told cause.WrongStation = refl
told cause.BadRule = refl
told cause.TooManyRules = refl
told cause.Down = refl

pub one-cause : (a b : Cause) → cause_text a ≡ cause_text b → a ≡ b
one-cause a b h = sym (told a) ∙ ap cause_in h ∙ told b
