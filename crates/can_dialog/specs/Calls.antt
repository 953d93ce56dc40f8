use Rattle.std.specs.Prelude.{ℕ, List, Option, Result, Ok, Err}
use Rattle.can_frame.specs.Frames.{CanFrame}
use Rattle.can_filter.specs.Filters.{CanFilter}
use Rattle.can_fault.specs.declared.verdict.Verdict.{Verdict}
use Rattle.can_confine.specs.Confinement.{ErrorCounts}
use Rattle.can_event.specs.declared.socket_id.SocketId.{SocketId}
use Rattle.can_event.specs.declared.opt.Opt.{Opt}
use Rattle.can_event.specs.declared.attempt.Attempt.{Attempt as AnAttempt}
use Rattle.can_event.specs.declared.reply.Closed.{Closed}
use Rattle.can_event.specs.declared.event.Event.{Event}
use Rattle.can_event.specs.declared.event.Event.TheVariants as event
use Rattle.can_event.specs.declared.refusal.Refusal.TheVariants as refusal
use Rattle.can_event.specs.declared.received.Received.{Received}
use Rattle.can_event.specs.declared.reply.Reply.{Reply as EventReply}
use Rattle.can_event.specs.declared.reply.Reply.TheVariants as reply
use Rattle.can_event.specs.declared.stats.SocketStats.{SocketStats}
use Rattle.can_event.specs.declared.stats.IfaceStats.{IfaceStats}
use Rattle.can_rules.specs.declared.rules.RuleRefusal.{RuleRefusal}
use Rattle.can_rules.specs.declared.rules.RuleRefusal.TheVariants as rule
use Rattle.can_proto.specs.declared.answer.BusLoad.{BusLoad}
use Rattle.can_proto.specs.declared.answer.Cause.{Cause}
use Rattle.can_proto.specs.declared.answer.Cause.TheVariants as cause
use Rattle.can_proto.specs.Causes.{cause_of_refusal}
use Rattle.can_dialog.specs.declared.port.PortRefusal.{PortRefusal}
use Rattle.can_dialog.specs.declared.port.PortRefusal.TheVariants as port

-- The calls of a port, and the replies that it may give (own choice).

-- A call of a port with its arguments. Interfaces and timestamps are numbers, and a fault rule is its text. `Names`
-- returns the names of all interfaces that may be attached, in order. No session calls `Attempt`.
pub data Call : Type 0 where
  Names : Call
  Attach : List ℕ → Call
  Open : ℕ → ℕ → Call
  Close : SocketId → Call
  SetFilters : SocketId → List CanFilter → Call
  SetOption : SocketId → Opt → Call
  Send : SocketId → CanFrame → Call
  Receive : SocketId → Call
  Restart : ℕ → ℕ → Call
  Attempt : ℕ → Verdict → Call
  CountsOfSocket : SocketId → Call
  CountsOfIface : ℕ → Call
  CountersOfIface : ℕ → Call
  LoadAt : ℕ → Call
  Inject : List ℕ → Call
  CountsRules : Call
  EndsRules : Call
  Down : ℕ → ℕ → Call

-- the type of the reply to a call
abbrev pub Reply : Call → Type 0
Reply Names = List (List ℕ)
Reply (Attach name) = Result ℕ PortRefusal
Reply (Open iface capacity) = Result SocketId PortRefusal
Reply (Close socket) = Result Closed PortRefusal
Reply (SetFilters socket filters) = Result (Unit {0}) PortRefusal
Reply (SetOption socket option) = Result (Unit {0}) PortRefusal
Reply (Send socket frame) = Result ℕ PortRefusal
Reply (Receive socket) = Result (Option Received) PortRefusal
Reply (Restart iface moment) = Result (Unit {0}) PortRefusal
Reply (Attempt moment verdict) = Result AnAttempt PortRefusal
Reply (CountsOfSocket socket) = Option SocketStats
Reply (CountsOfIface iface) = Option IfaceStats
Reply (CountersOfIface iface) = ErrorCounts
Reply (LoadAt moment) = BusLoad
Reply (Inject rule) = Result (Unit {0}) PortRefusal
Reply CountsRules = ℕ
Reply EndsRules = Unit {0}
Reply (Down iface moment) = Result (Unit {0}) PortRefusal

-- the cause that a client reads for a port's refusal
abbrev pub cause_of_port : PortRefusal → Cause
cause_of_port (port.Bus why) = cause_of_refusal why
cause_of_port port.TooManyPasses = cause.TooManyPasses
cause_of_port port.WrongStation = cause.WrongStation
cause_of_port port.BadRule = cause.BadRule
cause_of_port port.TooManyRules = cause.TooManyRules

-- a port's refusal of a fault rule, given the refusal of the fault plan
abbrev pub port_of_rule : RuleRefusal → PortRefusal
port_of_rule rule.BadRule = port.BadRule
port_of_rule rule.UnknownInterface = port.Bus refusal.NoInterface
port_of_rule rule.TooManyRules = port.TooManyRules
port_of_rule rule.NoMemory = port.Bus refusal.NoMemory

-- a port's reply to a fault rule, given the reply of the fault plan
abbrev pub reply_to_rule : Result (Unit {0}) RuleRefusal → Result (Unit {0}) PortRefusal
reply_to_rule (Ok done) = Ok done
reply_to_rule (Err why) = Err (port_of_rule why)

-- the port refuses an event for this reason
abbrev pub Denies : {P : Type 0} → (P → (call : Call) → Reply call → P → Type 0) → P → Event → PortRefusal → P → Type 0
Denies step old (event.Open iface capacity) why new = step old (Open iface capacity) (Err why) new
Denies step old (event.Close socket) why new = step old (Close socket) (Err why) new
Denies step old (event.SetFilters socket filters) why new = step old (SetFilters socket filters) (Err why) new
Denies step old (event.SetOption socket option) why new = step old (SetOption socket option) (Err why) new
Denies step old (event.Send socket frame) why new = step old (Send socket frame) (Err why) new
Denies step old (event.Receive socket) why new = step old (Receive socket) (Err why) new
Denies step old (event.Attempt moment verdict) why new = step old (Attempt moment verdict) (Err why) new
Denies step old (event.Restart iface moment) why new = step old (Restart iface moment) (Err why) new
Denies step old (event.Down iface moment) why new = step old (Down iface moment) (Err why) new

-- the port takes an event and gives this reply; the reply is of the event's kind, or a refusal by the bus
abbrev pub Replies : {P : Type 0} → (P → (call : Call) → Reply call → P → Type 0) → P → Event → EventReply → P → Type 0
Replies step old e (reply.Refused why) new = Denies step old e (port.Bus why) new
Replies step old (event.Open iface capacity) (reply.Opened socket) new = step old (Open iface capacity) (Ok socket) new
Replies step old (event.Close socket) (reply.Closed counts) new = step old (Close socket) (Ok counts) new
Replies step old (event.SetFilters socket filters) reply.Done new = step old (SetFilters socket filters) (Ok tt) new
Replies step old (event.SetOption socket option) reply.Done new = step old (SetOption socket option) (Ok tt) new
Replies step old (event.Send socket frame) (reply.Sent number) new = step old (Send socket frame) (Ok number) new
Replies step old (event.Receive socket) (reply.Received item) new = step old (Receive socket) (Ok item) new
Replies step old (event.Attempt moment verdict) (reply.Attempted a) new = step old (Attempt moment verdict) (Ok a) new
Replies step old (event.Restart iface moment) reply.Done new = step old (Restart iface moment) (Ok tt) new
Replies step old (event.Down iface moment) reply.Done new = step old (Down iface moment) (Ok tt) new
Replies step old e r new = ⊥

-- the port takes the call for an event: the result is a reply of the bus, or a refusal before the event reaches the bus
abbrev pub Steps : {P : Type 0} → (P → (call : Call) → Reply call → P → Type 0) → P → Event
    → Result EventReply PortRefusal → P → Type 0
Steps step old e (Ok r) new = Replies step old e r new
Steps step old e (Err why) new = Denies step old e why new
