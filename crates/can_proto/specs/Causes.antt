use Rattle.std.specs.Prelude.{ℕ, List, codes}
use Rattle.can_event.specs.declared.refusal.Refusal.{Refusal}
use Rattle.can_event.specs.declared.refusal.Refusal.TheVariants as refusal
use Rattle.can_proto.specs.declared.fault.ProtoFault.{ProtoFault}
use Rattle.can_proto.specs.declared.fault.ProtoFault.TheVariants as fault
use Rattle.can_proto.specs.declared.answer.Cause.{Cause}
use Rattle.can_proto.specs.declared.answer.Cause.TheVariants as cause

-- The causes for which the server refuses a message, and their texts (own choice).

-- the text that reports a cause
abbrev pub cause_text : Cause → List ℕ
cause_text cause.NoMemory = codes "no memory"
cause_text cause.RecordFull = codes "record full"
cause_text cause.NoInterface = codes "no such interface"
cause_text cause.BadCapacity = codes "bad capacity"
cause_text cause.TooManySockets = codes "too many sockets"
cause_text cause.NoSocket = codes "no socket"
cause_text cause.FdOff = codes "fd frames off"
cause_text cause.BusOff = codes "bus off"
cause_text cause.NoBuffers = codes "no buffers"
cause_text cause.NotBusOff = codes "not bus off"
cause_text cause.TooManyPasses = codes "too many passes"
cause_text cause.InvalidFilter = codes "invalid filter"
cause_text cause.TooManyFilters = codes "too many filters"
cause_text cause.EmptyMessage = codes "empty message"
cause_text cause.UnknownCommand = codes "unknown command"
cause_text cause.WrongState = codes "wrong state"
cause_text cause.ModeNotSupported = codes "mode not supported"
cause_text cause.BadCount = codes "bad word count"
cause_text cause.BadId = codes "bad id"
cause_text cause.BadLength = codes "bad length"
cause_text cause.BadByte = codes "bad byte"
cause_text cause.BadNumber = codes "bad number"
cause_text cause.MessageTooLong = codes "message too long"
cause_text cause.TooManySessions = codes "too many sessions"
cause_text cause.WrongStation = codes "wrong station"
cause_text cause.BadRule = codes "bad rule"
cause_text cause.TooManyRules = codes "too many rules"
cause_text cause.Down = codes "interface down"

-- the cause that reports a fault in a message
abbrev pub cause_of_fault : ProtoFault → Cause
cause_of_fault fault.NoMemory = cause.NoMemory
cause_of_fault fault.InvalidFilter = cause.InvalidFilter
cause_of_fault fault.TooManyFilters = cause.TooManyFilters
cause_of_fault fault.EmptyMessage = cause.EmptyMessage
cause_of_fault fault.UnknownCommand = cause.UnknownCommand
cause_of_fault fault.WrongState = cause.WrongState
cause_of_fault fault.ModeNotSupported = cause.ModeNotSupported
cause_of_fault fault.BadCount = cause.BadCount
cause_of_fault fault.BadId = cause.BadId
cause_of_fault fault.BadLength = cause.BadLength
cause_of_fault fault.BadByte = cause.BadByte
cause_of_fault fault.BadNumber = cause.BadNumber

-- the cause that reports a refusal by the bus
abbrev pub cause_of_refusal : Refusal → Cause
cause_of_refusal refusal.RecordFull = cause.RecordFull
cause_of_refusal refusal.NoInterface = cause.NoInterface
cause_of_refusal refusal.BadCapacity = cause.BadCapacity
cause_of_refusal refusal.TooManySockets = cause.TooManySockets
cause_of_refusal refusal.NoSocket = cause.NoSocket
cause_of_refusal refusal.FdOff = cause.FdOff
cause_of_refusal refusal.BusOff = cause.BusOff
cause_of_refusal refusal.NoBuffers = cause.NoBuffers
cause_of_refusal refusal.NotBusOff = cause.NotBusOff
cause_of_refusal refusal.NoMemory = cause.NoMemory
cause_of_refusal refusal.Down = cause.Down
