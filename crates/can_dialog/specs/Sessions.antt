use Rattle.std.specs.Prelude.{◌≡◌, ◌≢◌, ◌⊎◌, ℕ, Bool, Ok, List, [], ◌∷◌, ◌++◌, count_by, Option}
use Rattle.std.specs.Io.KnownBytes.{Appends}
use Rattle.can_proto.specs.declared.message.Incoming.{Incoming}
use Rattle.can_proto.specs.declared.answer.Answer.{Answer}
use Rattle.can_proto.specs.declared.answer.Answer.TheVariants.{Refused}
use Rattle.can_proto.specs.declared.answer.Cause.TheVariants.{NoMemory}
use Rattle.can_proto.specs.declared.command.Command.{Command}
use Rattle.can_proto.specs.Spelling.{answer_text, interfaces_text}
use Rattle.can_proto.specs.Messages.{is_open_mark, messages_of, kept_of}
use Rattle.can_dialog.specs.declared.stage.Stage.{Stage}
use Rattle.can_dialog.specs.declared.stage.Stage.TheVariants.{NoBus, Raw, Ended}
use Rattle.can_dialog.specs.declared.stage.RawSocket.{RawSocket}
use Rattle.can_frame.specs.Frames.{CanFrame}
use Rattle.can_dialog.specs.declared.stage.Dialog.{Dialog}
use Rattle.can_dialog.specs.Calls.{Call, Reply}
use Rattle.can_dialog.specs.Calls.Call.{Names}
use Rattle.can_dialog.specs.Plans.{Plan, Plays}
use Rattle.can_dialog.specs.Turns.{voiced, read_as, answering, turn, at_stage, sending_frame, ending, delivery}

-- The effects and the output of a session, over any port.

-- a session between calls: the text of an incomplete message, and the state of the dialog
pub record SessionState : Type 0 where
  pub kept : List ℕ
  pub dialog : Dialog

-- a new session; `capacity` is the capacity of its future socket
abbrev pub beginning : ℕ → SessionState
beginning capacity = record { kept = []; dialog = record { capacity = capacity; stage = NoBus } }

-- the session is over
abbrev pub IsSessionOver : SessionState → Type 0
IsSessionOver s = s.dialog.stage ≡ Ended

-- the same session after its end
abbrev pub ended_session : SessionState → SessionState
ended_session s = record s { dialog = at_stage Ended s.dialog }

-- the session is not in raw mode
abbrev pub IsNotRaw : Stage → Type 0
IsNotRaw (Raw raw) = ⊥
IsNotRaw _ = Unit {0}

-- the port takes the calls of a plan, and the client gets this reply, if any
abbrev pub Replies : {P : Type 0} → (P → (call : Call) → Reply call → P → Type 0) → Plan Dialog → P → P
    → Option Answer → Dialog → Type 0
Replies {P} step plan p q answer after = Plays step plan p q (voiced answer) after

-- a turn with one item and its text, whether or not there is memory for the item's command
abbrev pub TakesTurn : {P : Type 0} → (P → (call : Call) → Reply call → P → Type 0) → ℕ → Dialog → Incoming → P → P
    → List ℕ → Dialog → Type 0
TakesTurn {P} step moment d item p q text after =
    (forgot : Bool) × Plays step (turn forgot moment d item) p q text after

-- a command is carried out with this text, whether or not there is memory for it
abbrev pub CarriesOut : {P : Type 0} → (P → (call : Call) → Reply call → P → Type 0) → ℕ → Dialog → Command → P → P
    → List ℕ → Dialog → Type 0
CarriesOut {P} step moment d command p q text after =
    (forgot : Bool) × Plays step (answering moment d (read_as forgot (Ok command))) p q text after

-- the reply lists the names of all interfaces, or reports that there was no memory
abbrev pub ReportsNames : {P : Type 0} → (P → (call : Call) → Reply call → P → Type 0) → P → List ℕ → Type 0
ReportsNames {P} step p text =
    ((names : List (List ℕ)) × step p Names names p × (text ≡ interfaces_text names))
    ⊎ (text ≡ answer_text (Refused NoMemory))

-- the session ends over the port, and writes no text
abbrev pub Finishes : {P : Type 0} → (P → (call : Call) → Reply call → P → Type 0) → Dialog → P → P → Dialog → Type 0
Finishes {P} step d p q after = Plays step (ending d.stage d) p q [] after

-- the turns with these items, in order; each flag is true if there was no memory for the item's command
abbrev pub Turns : {P : Type 0} → (P → (call : Call) → Reply call → P → Type 0) → ℕ → Dialog → List Bool
    → List Incoming → P → P → List ℕ → Dialog → Type 0
Turns {P} step moment d [] [] p q text after = (q ≡ p) × (text ≡ []) × (after ≡ d)
Turns {P} step moment d (forgot ∷ more) (item ∷ items) p q text after =
    (first : List ℕ) × (mid : Dialog) × (port : P) × (others : List ℕ)
    × Plays step (turn forgot moment d item) p port first mid
    × Turns step moment mid more items port q others after
    × (text ≡ first ++ others)
Turns {P} step moment d _ _ p q text after = ⊥

-- the turns with these items, in order, whether or not there is memory for each command
abbrev pub TakesTurns : {P : Type 0} → (P → (call : Call) → Reply call → P → Type 0) → ℕ → Dialog → List Incoming
    → P → P → List ℕ → Dialog → Type 0
TakesTurns {P} step moment d items p q text after =
    (forgotten : List Bool) × Turns step moment d forgotten items p q text after

-- a writer takes a text; an empty text leaves the writer unchanged
pub record Wrote {W : Type 0} (contents : W → Option (List ℕ)) (old : W) (text : List ℕ) (new : W) : Type 0 where
  pub grows : Appends (contents old) (contents new) text
  pub alone : text ≡ [] → new ≡ old

-- the session handles these items over the port, and the writer takes their text
pub record Says {P W : Type 0} (step : P → (call : Call) → Reply call → P → Type 0) (contents : W → Option (List ℕ))
    (moment : ℕ) (before : Dialog) (items : List Incoming) (p q : P) (out new : W) (after : Dialog) : Type 0 where
  pub forgotten : List Bool
  pub text : List ℕ
  pub turns : Turns step moment before forgotten items p q text after
  pub wrote : Wrote contents out text new

-- the session handles these items over the port, but the text does not reach the client and the session ends
pub record Cut {P : Type 0} (step : P → (call : Call) → Reply call → P → Type 0) (moment : ℕ) (before : Dialog)
    (items : List Incoming) (p q : P) (after : Dialog) : Type 0 where
  pub forgotten : List Bool
  pub text : List ℕ
  pub mid : Dialog
  pub port : P
  pub some : text ≢ []
  pub turns : Turns step moment before forgotten items p port text mid
  pub ends : Finishes step mid port q after

-- the session sends a frame over the port, and the writer takes the text
abbrev pub SendsFrame : {P W : Type 0} → (P → (call : Call) → Reply call → P → Type 0) → (W → Option (List ℕ)) → Dialog
    → RawSocket → CanFrame → P → P → W → W → Dialog → Type 0
SendsFrame {P} {W} step contents before raw frame p q out new after =
    (text : List ℕ) × Plays step (sending_frame before raw frame) p q text after × Wrote contents out text new

-- the session sends a frame over the port, but the text does not reach the client and the session ends
abbrev pub SendCut : {P : Type 0} → (P → (call : Call) → Reply call → P → Type 0) → Dialog → RawSocket → CanFrame
    → P → P → Dialog → Type 0
SendCut {P} step before raw frame p q after =
    (text : List ℕ) × (mid : Dialog) × (port : P) × (text ≢ [])
    × Plays step (sending_frame before raw frame) p port text mid × Finishes step mid port q after

-- one delivery over the port, and the writer takes its text; `more` is true if an item was delivered
pub record Delivers {P W : Type 0} (step : P → (call : Call) → Reply call → P → Type 0)
    (contents : W → Option (List ℕ)) (stage : Stage) (p q : P) (out new : W) (more : Bool) : Type 0 where
  pub text : List ℕ
  pub plays : Plays step (delivery stage) p q text more
  pub wrote : Wrote contents out text new

-- one delivery over the port, but its text does not reach the client and the session ends
pub record DeliveryCut {P : Type 0} (step : P → (call : Call) → Reply call → P → Type 0) (before : Dialog) (p q : P)
    (after : Dialog) : Type 0 where
  pub text : List ℕ
  pub more : Bool
  pub port : P
  pub some : text ≢ []
  pub plays : Plays step (delivery before.stage) p port text more
  pub ends : Finishes step before port q after

-- these pieces are fed in order; `before` is the text kept before the first piece
abbrev pub Feeds : {P : Type 0} → (P → (call : Call) → Reply call → P → Type 0) → ℕ → Dialog → List ℕ
    → List (List ℕ) → P → P → List ℕ → Dialog → Type 0
Feeds {P} step moment d before [] p q text after = (q ≡ p) × (text ≡ []) × (after ≡ d)
Feeds {P} step moment d before (piece ∷ pieces) p q text after =
    (forgotten : List Bool) × (first : List ℕ) × (mid : Dialog) × (port : P) × (others : List ℕ)
    × Turns step moment d forgotten (messages_of (before ++ piece)) p port first mid
    × Feeds step moment mid (kept_of (before ++ piece)) pieces port q others after
    × (text ≡ first ++ others)

-- the number of messages that begin in a text
abbrev pub messages_begun : List ℕ → ℕ
messages_begun text = count_by is_open_mark text
