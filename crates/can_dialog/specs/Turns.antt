use Rattle.std.specs.Prelude.{ℕ, ◌==◌, Bool, true, false, if◌then◌else◌, List, [], Option, Some, None, Result, Ok, Err}
use Rattle.can_confine.specs.Confinement.{ErrorCounts}
use Rattle.can_frame.specs.Frames.{CanFrame}
use Rattle.can_event.specs.declared.socket_id.SocketId.{SocketId}
use Rattle.can_event.specs.declared.reply.Closed.{Closed}
use Rattle.can_event.specs.declared.received.Received.{Received}
use Rattle.can_event.specs.declared.refusal.Refusal.TheVariants as refusal
use Rattle.can_event.specs.declared.stats.SocketStats.{SocketStats}
use Rattle.can_event.specs.declared.stats.IfaceStats.{IfaceStats}
use Rattle.can_proto.specs.declared.message.Incoming.{Incoming}
use Rattle.can_proto.specs.declared.message.Incoming.TheVariants.{Message, TooLong}
use Rattle.can_proto.specs.declared.command.Mode.{Mode}
use Rattle.can_proto.specs.declared.command.Mode.TheVariants as mode
use Rattle.can_proto.specs.declared.command.Command.{Command}
use Rattle.can_proto.specs.declared.command.Command.TheVariants as command
use Rattle.can_proto.specs.declared.fault.ProtoFault.{ProtoFault}
use Rattle.can_proto.specs.declared.fault.ProtoFault.TheVariants as fault
use Rattle.can_proto.specs.declared.answer.Answer.{Answer}
use Rattle.can_proto.specs.declared.answer.Answer.TheVariants as answer
use Rattle.can_proto.specs.declared.answer.BusLoad.{BusLoad}
use Rattle.can_proto.specs.declared.answer.Origin.{Origin}
use Rattle.can_proto.specs.declared.answer.Origin.TheVariants as origin
use Rattle.can_proto.specs.declared.answer.Cause.TheVariants as cause
use Rattle.can_proto.specs.Words.{words_of}
use Rattle.can_proto.specs.Commands.{reading, keeps_on_heap}
use Rattle.can_proto.specs.Causes.{cause_of_fault}
use Rattle.can_proto.specs.Spelling.{answer_text, interfaces_text, item_text, item_text_from}
use Rattle.can_dialog.specs.declared.port.PortRefusal.{PortRefusal}
use Rattle.can_dialog.specs.declared.port.PortRefusal.TheVariants as port
use Rattle.can_dialog.specs.declared.stage.Stage.{Stage}
use Rattle.can_dialog.specs.declared.stage.Stage.TheVariants.{NoBus, Opened, Raw, Ended}
use Rattle.can_dialog.specs.declared.stage.RawSocket.{RawSocket}
use Rattle.can_dialog.specs.declared.stage.Dialog.{Dialog}
use Rattle.can_dialog.specs.Calls.{cause_of_port}
use Rattle.can_dialog.specs.Calls.Call.{Names, Attach, Open, Close, SetFilters, SetOption, Send}
use Rattle.can_dialog.specs.Calls.Call.{Receive, Restart, CountsOfSocket, CountsOfIface, Down}
use Rattle.can_dialog.specs.Calls.Call.{CountersOfIface, LoadAt, Inject, CountsRules, EndsRules}
use Rattle.can_dialog.specs.Plans.{Plan}
use Rattle.can_dialog.specs.Plans.Plan.{Tell, Ask}

-- The turns of a session: the calls of each command, a text for the client, and the state after the command
-- (socketcand's raw mode; filter and the later commands are own choice).

-- the mode of a stage
abbrev pub mode_of : Stage → Mode
mode_of NoBus = mode.NoBus
mode_of (Opened iface) = mode.Opened
mode_of (Raw raw) = mode.Raw
mode_of Ended = mode.Ended

-- the text of a reply, or no text if there is none
abbrev pub voiced : Option Answer → List ℕ
voiced None = []
voiced (Some a) = answer_text a

-- a plan with a reply and no call
abbrev pub tells : Answer → Dialog → Plan Dialog
tells a d = Tell (answer_text a) d

-- a plan with no reply and no call
abbrev pub silent : Dialog → Plan Dialog
silent d = Tell [] d

-- the plan that reports a refusal by the port and changes nothing
abbrev pub refused : PortRefusal → Dialog → Plan Dialog
refused why d = tells (answer.Refused (cause_of_port why)) d

-- the plan that reports that the stage does not allow the command
abbrev pub misplaced : Dialog → Plan Dialog
misplaced d = tells (answer.Refused cause.WrongState) d

-- the same session in another stage
abbrev pub at_stage : Stage → Dialog → Dialog
at_stage stage d = record d { stage = stage }

-- the plan after the port's reply to `Attach`
abbrev pub attached : Dialog → Result ℕ PortRefusal → Plan Dialog
attached d (Ok iface) = tells answer.Done (at_stage (Opened iface) d)
attached d (Err why) = refused why d

-- the plan after the port's reply to `Open`; at first the client receives no data of error message frames, no frame
-- numbers and no origins
abbrev pub entered : Dialog → ℕ → Result SocketId PortRefusal → Plan Dialog
entered d iface (Ok socket) =
    tells answer.Done
    (at_stage (Raw (record { iface = iface; socket = socket; errdata = false; acks = false; origins = false })) d)
entered d iface (Err why) = refused why d

-- the plan after the port's reply to `Send`: the frame's number is reported if the client asked for numbers, and a
-- refusal is always reported
abbrev pub sent : Dialog → RawSocket → Result ℕ PortRefusal → Plan Dialog
sent d raw (Ok number) = if raw.acks then tells (answer.Sent number) d else silent d
sent d raw (Err why) = refused why d

-- the plan to send a frame
abbrev pub sending_frame : Dialog → RawSocket → CanFrame → Plan Dialog
sending_frame d raw frame = Ask (Send raw.socket frame) (sent d raw)

-- the reply after a call that returns no value: done or refused
abbrev pub told_when_done : Result (Unit {0}) PortRefusal → Answer
told_when_done (Ok _) = answer.Done
told_when_done (Err why) = answer.Refused (cause_of_port why)

-- the plan after a call that returns no value
abbrev pub done : Dialog → Result (Unit {0}) PortRefusal → Plan Dialog
done d outcome = tells (told_when_done outcome) d

-- the plan after the port's reply to `CountsOfIface`; the counts of the socket are known already
abbrev pub counted : Dialog → SocketStats → Option IfaceStats → Plan Dialog
counted d s None = refused (port.Bus refusal.NoInterface) d
counted d s (Some i) = tells (answer.Stats s i) d

-- the plan after the port's reply to `CountsOfSocket`; if there is no such socket, the plan does not ask for the counts
-- of the interface
abbrev pub looked_up : Dialog → ℕ → Option SocketStats → Plan Dialog
looked_up d iface None = refused (port.Bus refusal.NoSocket) d
looked_up d iface (Some s) = Ask (CountsOfIface iface) (counted d s)

-- the plan to report the counts of the socket and of the interface
abbrev pub looking_up : Dialog → RawSocket → Plan Dialog
looking_up d raw = Ask (CountsOfSocket raw.socket) (looked_up d raw.iface)

-- the plan after the port's reply to `CountersOfIface`
abbrev pub metered : Dialog → ErrorCounts → Plan Dialog
metered d counters = tells (answer.Status counters) d

-- the plan after the port's reply to `LoadAt`
abbrev pub loaded : Dialog → BusLoad → Plan Dialog
loaded d load = tells (answer.Load load) d

-- the plan after the client asked to close the socket: the session is over unless the port refuses
abbrev pub closed : Dialog → Result Closed PortRefusal → Plan Dialog
closed d (Ok c) = tells (answer.Closing c) (at_stage Ended d)
closed d (Err why) = refused why d

-- the plan to close the socket because the client asked for it
abbrev pub closing_socket : Dialog → RawSocket → Plan Dialog
closing_socket d raw = Ask (Close raw.socket) (closed d)

-- the plan to add a fault rule to the bus
abbrev pub injecting : Dialog → List ℕ → Plan Dialog
injecting d rule = Ask (Inject rule) (done d)

-- the plan after the port's reply to `CountsRules`
abbrev pub told_rules : Dialog → ℕ → Plan Dialog
told_rules d left = tells (answer.Faults left) d

-- the plan to report the number of fault rules
abbrev pub counting_rules : Dialog → Plan Dialog
counting_rules d = Ask CountsRules (told_rules d)

-- the plan to remove all fault rules
abbrev pub ending_rules : Dialog → Plan Dialog
ending_rules d = Ask EndsRules (λ _. tells answer.Done d)

-- the plan to report the names of all interfaces
abbrev pub naming : Dialog → Plan Dialog
naming d = Ask Names (λ names. Tell (interfaces_text names) d)

-- the plan for a command before an interface is opened
abbrev pub doing_unopened : Dialog → Command → Plan Dialog
doing_unopened d command.Echo = tells answer.Echo d
doing_unopened d (command.Open name) = Ask (Attach name) (attached d)
doing_unopened d _ = misplaced d

-- the plan for a command after an interface is opened and before raw mode
abbrev pub doing_opened : Dialog → ℕ → Command → Plan Dialog
doing_opened d iface command.Echo = tells answer.Echo d
doing_opened d iface command.Rawmode = Ask (Open iface d.capacity) (entered d iface)
doing_opened d iface (command.Fault rule) = injecting d rule
doing_opened d iface command.Faults = counting_rules d
doing_opened d iface command.NoFaults = ending_rules d
doing_opened d iface _ = misplaced d

-- the plan for a command in raw mode, at this time
abbrev pub doing_raw : ℕ → Dialog → RawSocket → Command → Plan Dialog
doing_raw moment d raw command.Echo = tells answer.Echo d
doing_raw moment d raw (command.Open name) = misplaced d
doing_raw moment d raw command.Interfaces = misplaced d
doing_raw moment d raw command.Rawmode = tells answer.Done d
doing_raw moment d raw (command.Send frame) = sending_frame d raw frame
doing_raw moment d raw (command.SetFilters filters) = Ask (SetFilters raw.socket filters) (done d)
doing_raw moment d raw (command.SetOption option) = Ask (SetOption raw.socket option) (done d)
doing_raw moment d raw (command.ErrData on) = tells answer.Done (at_stage (Raw (record raw { errdata = on })) d)
doing_raw moment d raw (command.Ack on) = tells answer.Done (at_stage (Raw (record raw { acks = on })) d)
doing_raw moment d raw (command.Origin on) = tells answer.Done (at_stage (Raw (record raw { origins = on })) d)
doing_raw moment d raw command.Stats = looking_up d raw
doing_raw moment d raw command.Status = Ask (CountersOfIface raw.iface) (metered d)
doing_raw moment d raw command.Load = Ask (LoadAt moment) (loaded d)
doing_raw moment d raw command.Restart = Ask (Restart raw.iface moment) (done d)
doing_raw moment d raw (command.Fault rule) = injecting d rule
doing_raw moment d raw command.Faults = counting_rules d
doing_raw moment d raw command.NoFaults = ending_rules d
doing_raw moment d raw command.Close = closing_socket d raw
doing_raw moment d raw command.Down = Ask (Down raw.iface moment) (done d)

-- the plan for a command at this stage of the session
abbrev pub doing : ℕ → Dialog → Stage → Command → Plan Dialog
doing moment d NoBus c = doing_unopened d c
doing moment d (Opened iface) c = doing_opened d iface c
doing moment d (Raw raw) c = doing_raw moment d raw c
doing moment d Ended c = silent d

-- whether the command may fail for lack of memory, because the command or its reply needs the heap
abbrev pub may_lack_memory : Command → Bool
may_lack_memory command.Interfaces = true
may_lack_memory c = keeps_on_heap c

-- the fault `NoMemory` for a command that may fail for lack of memory; anything else is unchanged
abbrev pub without_memory : Result Command ProtoFault → Result Command ProtoFault
without_memory (Ok c) = if may_lack_memory c then Err fault.NoMemory else Ok c
without_memory (Err e) = Err e

-- the command or the fault of a message; `forgot` is true if there was no memory for it
abbrev pub read_as : Bool → Result Command ProtoFault → Result Command ProtoFault
read_as false read = read
read_as true read = without_memory read

-- the plan for a command or a fault: `interfaces` does the same at each stage, and all other commands depend on the
-- stage. A fault of a message is reported and does nothing else.
abbrev pub answering : ℕ → Dialog → Result Command ProtoFault → Plan Dialog
answering moment d (Ok command.Interfaces) = naming d
answering moment d (Ok c) = doing moment d d.stage c
answering moment d (Err e) = tells (answer.Refused (cause_of_fault e)) d

-- the plan for one item of a client's stream
abbrev pub heard : Bool → ℕ → Dialog → Incoming → Plan Dialog
heard forgot moment d TooLong = tells (answer.Refused cause.MessageTooLong) d
heard forgot moment d (Message inside) =
    answering moment d (read_as forgot (reading (mode_of d.stage) (words_of inside)))

-- the plan of a turn; a session that is over does nothing and writes nothing
abbrev pub unless_over : Stage → Plan Dialog → Dialog → Plan Dialog
unless_over Ended plan d = silent d
unless_over _ plan d = plan

-- the turn with one item of a client's stream
abbrev pub turn : Bool → ℕ → Dialog → Incoming → Plan Dialog
turn forgot moment d item = unless_over d.stage (heard forgot moment d item) d

-- the plan after the port's reply to `Close` at the end of a session; the reply does not matter
abbrev pub ended_by : Dialog → Result Closed PortRefusal → Plan Dialog
ended_by d _ = silent (at_stage Ended d)

-- the plan for the end of a session: it closes the raw socket, if there is one
abbrev pub ending : Stage → Dialog → Plan Dialog
ending (Raw raw) d = Ask (Close raw.socket) (ended_by d)
ending _ d = silent (at_stage Ended d)

-- the origin of a frame with this number: the same interface, or another one
abbrev pub origin_of : Bool → ℕ → Origin
origin_of true number = origin.Same number
origin_of false number = origin.Other number

-- the text of a received item, with its origin if the client asked for origins
abbrev pub received_text : RawSocket → Received → List ℕ
received_text raw r =
    if raw.origins then item_text_from raw.errdata (origin_of (r.from == raw.iface) r.number) r.item r.moment
    else item_text raw.errdata r.item r.moment

-- the plan after the port's reply to `Receive`: if an item is written, there may be more items
abbrev pub delivered : RawSocket → Result (Option Received) PortRefusal → Plan Bool
delivered raw (Ok (Some r)) = Tell (received_text raw r) true
delivered raw (Ok None) = Tell [] false
delivered raw (Err why) = Tell (answer_text (answer.Refused (cause_of_port why))) false

-- the plan of a delivery: one receive in raw mode, and no call in other modes
abbrev pub delivery : Stage → Plan Bool
delivery (Raw raw) = Ask (Receive raw.socket) (delivered raw)
delivery _ = Tell [] false

-- the first text of a session
abbrev pub greeting : List ℕ
greeting = answer_text answer.Greeting
