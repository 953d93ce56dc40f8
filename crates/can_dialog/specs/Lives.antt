use Rattle.std.specs.Prelude.{◌≡◌, ℕ, Bool, List, [], ◌∷◌, ◌++◌, map}
use Rattle.can_proto.specs.declared.message.Incoming.{Incoming}
use Rattle.can_proto.specs.Messages.{messages_of, kept_of}
use Rattle.can_dialog.specs.declared.stage.Stage.{Stage}
use Rattle.can_dialog.specs.declared.stage.Stage.TheVariants.{Ended}
use Rattle.can_dialog.specs.declared.stage.Dialog.{Dialog}
use Rattle.can_dialog.specs.Calls.{Call, Reply}
use Rattle.can_dialog.specs.Plans.{Plays}
use Rattle.can_dialog.specs.Turns.{turn, ending, delivery, greeting}
use Rattle.can_dialog.specs.Sessions.{TakesTurns}

-- A whole session: its turns, and the calls that make these turns.

-- An act of a session: a call or a turn. `Hear` has a time, and a piece of the stream (in a call) or one item (in a
-- turn).
pub data Act (A : Type 0) : Type 0 where
  Greet : Act A
  Hear : ℕ → A → Act A
  Deliver : Act A
  End : Act A

-- the pieces or items that the acts read, in order
abbrev pub heard_in : {A : Type 0} → List (Act A) → List A
heard_in [] = []
heard_in (Hear moment x ∷ acts) = x ∷ heard_in acts
heard_in (_ ∷ acts) = heard_in acts

-- the greeting, or no text if the session is over
abbrev pub first_text : Stage → List ℕ
first_text Ended = []
first_text _ = greeting

-- a turn takes the port from p to q, has this text and leaves the dialog `after`; `forgot` is true if there was no
-- memory for its command
abbrev pub TurnDoes : {P : Type 0} → (P → (call : Call) → Reply call → P → Type 0) → Bool → Dialog → Act Incoming
    → P → P → List ℕ → Dialog → Type 0
TurnDoes {P} step forgot d Greet p q text after = (q ≡ p) × (text ≡ first_text d.stage) × (after ≡ d)
TurnDoes {P} step forgot d (Hear moment item) p q text after = Plays step (turn forgot moment d item) p q text after
TurnDoes {P} step forgot d Deliver p q text after =
    (more : Bool) × Plays step (delivery d.stage) p q text more × (after ≡ d)
TurnDoes {P} step forgot d End p q text after = Plays step (ending d.stage d) p q text after

-- the turns in order take the port from p to q; `text` is the text of all of them
abbrev pub Lives : {P : Type 0} → (P → (call : Call) → Reply call → P → Type 0) → Dialog → List Bool
    → List (Act Incoming) → P → P → List ℕ → Dialog → Type 0
Lives {P} step d [] [] p q text after = (q ≡ p) × (text ≡ []) × (after ≡ d)
Lives {P} step d (forgot ∷ forgotten) (act ∷ acts) p q text after =
    (first : List ℕ) × (mid : Dialog) × (port : P) × (others : List ℕ)
    × TurnDoes step forgot d act p port first mid
    × Lives step mid forgotten acts port q others after
    × (text ≡ first ++ others)
Lives {P} step d _ _ p q text after = ⊥

-- a call takes the port from p to q, and its text reaches the client; `kept` is the text kept from earlier pieces
abbrev pub CallDoes : {P : Type 0} → (P → (call : Call) → Reply call → P → Type 0) → Dialog → List ℕ → Act (List ℕ)
    → P → P → List ℕ → Dialog → Type 0
CallDoes {P} step d kept Greet p q text after = (q ≡ p) × (text ≡ first_text d.stage) × (after ≡ d)
CallDoes {P} step d kept (Hear moment piece) p q text after =
    TakesTurns step moment d (messages_of (kept ++ piece)) p q text after
CallDoes {P} step d kept Deliver p q text after =
    (more : Bool) × Plays step (delivery d.stage) p q text more × (after ≡ d)
CallDoes {P} step d kept End p q text after = Plays step (ending d.stage d) p q text after

-- the effect of a call: a session that is over refuses every call, and then nothing changes
abbrev pub UnlessOver : {P : Type 0} → (P → (call : Call) → Reply call → P → Type 0) → Stage → Dialog → List ℕ
    → Act (List ℕ) → P → P → List ℕ → Dialog → Type 0
UnlessOver {P} step Ended d kept act p q text after = (q ≡ p) × (text ≡ []) × (after ≡ d)
UnlessOver {P} step _ d kept act p q text after = CallDoes step d kept act p q text after

-- the text of an incomplete message that is kept after a call
abbrev pub kept_after : List ℕ → Act (List ℕ) → List ℕ
kept_after kept (Hear moment piece) = kept_of (kept ++ piece)
kept_after kept _ = kept

-- the calls in order take the port from p to q; `text` is the text of all of them
abbrev pub IsCalled : {P : Type 0} → (P → (call : Call) → Reply call → P → Type 0) → Dialog → List ℕ
    → List (Act (List ℕ)) → P → P → List ℕ → Dialog → Type 0
IsCalled {P} step d kept [] p q text after = (q ≡ p) × (text ≡ []) × (after ≡ d)
IsCalled {P} step d kept (act ∷ acts) p q text after =
    (first : List ℕ) × (mid : Dialog) × (port : P) × (others : List ℕ)
    × UnlessOver step d.stage d kept act p port first mid
    × IsCalled step mid (kept_after kept act) acts port q others after
    × (text ≡ first ++ others)

-- the turns that these calls make; each message in the kept text and the piece together is a turn
abbrev pub turns_of : List ℕ → List (Act (List ℕ)) → List (Act Incoming)
turns_of kept [] = []
turns_of kept (Greet ∷ acts) = Greet ∷ turns_of kept acts
turns_of kept (Hear moment piece ∷ acts) =
    map (Hear moment) (messages_of (kept ++ piece)) ++ turns_of (kept_of (kept ++ piece)) acts
turns_of kept (Deliver ∷ acts) = Deliver ∷ turns_of kept acts
turns_of kept (End ∷ acts) = End ∷ turns_of kept acts
