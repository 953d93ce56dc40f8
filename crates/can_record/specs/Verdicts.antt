use Rattle.std.specs.Prelude.{ℕ, ◌==◌, if◌then◌else◌}
use Rattle.can_frame.specs.Sets.{no_ifaces}
use Rattle.can_frame.specs.declared.iface.IfaceSet.{IfaceSet}
use Rattle.can_attempt.specs.declared.class.Class.{Class}
use Rattle.can_attempt.specs.declared.class.Class.TheVariants as class
use Rattle.can_fault.specs.declared.verdict.GlobalKind.TheVariants as global
use Rattle.can_fault.specs.declared.verdict.LocalKind.TheVariants as local
use Rattle.can_fault.specs.declared.verdict.Verdict.{Verdict}
use Rattle.can_fault.specs.declared.verdict.Verdict.TheVariants.{Good, Global, Local, LastBit}

-- Classes and verdicts as numbers.

-- The number that stands for a class, below 4.
abbrev pub class_number : Class → ℕ
class_number class.Done = 0
class_number class.LastBit = 1
class_number class.Destroyed = 2
class_number class.NoAck = 3

-- The class for a number.
abbrev pub class_in : ℕ → Class
class_in n =
    if n == 0 then class.Done else if n == 1 then class.LastBit else if n == 2 then class.Destroyed else class.NoAck

-- The number that stands for a verdict without its interfaces, below 8.
abbrev pub verdict_number : Verdict → ℕ
verdict_number Good = 0
verdict_number (Global global.Bit) = 1
verdict_number (Global global.Form) = 2
verdict_number (Local set local.Stuff) = 3
verdict_number (Local set local.Crc) = 4
verdict_number (Local set local.Form) = 5
verdict_number LastBit = 6

-- The interfaces that a verdict names.
abbrev pub verdict_set : Verdict → IfaceSet
verdict_set (Local set kind) = set
verdict_set _ = no_ifaces

-- The verdict for a number, naming these interfaces.
abbrev pub verdict_in : ℕ → IfaceSet → Verdict
verdict_in n set =
    if n == 0 then Good
    else if n == 1 then Global global.Bit
    else if n == 2 then Global global.Form
    else if n == 3 then Local set local.Stuff
    else if n == 4 then Local set local.Crc
    else if n == 5 then Local set local.Form
    else LastBit
