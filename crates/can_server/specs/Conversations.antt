use Rattle.std.specs.Prelude.{◌≡◌, ◌⊎◌, ℕ, Bool, true, false, List, min, Option, Some, None}
use Rattle.std.specs.Io.KnownBytes.{Appends}
use Rattle.can_proto.specs.declared.message.Incoming.{Incoming}
use Rattle.can_dialog.specs.Calls.{Call, Reply}
use Rattle.can_dialog.specs.declared.stage.Dialog.{Dialog}
use Rattle.can_dialog.specs.Deliveries.{GivesItems}
use Rattle.can_dialog.specs.Sessions.{SessionState, IsSessionOver, Finishes, TakesTurns, Wrote}

-- The output that a server writes to a client, and the effect on the client's session (own choice).

-- the session ends and may make calls on the port; if it has already ended, nothing changes
abbrev pub EndsSession :
    {P : Type 0} → (P → (call : Call) → Reply call → P → Type 0) → SessionState → P → SessionState → P → Type 0
EndsSession step old p new q =
    (IsSessionOver old × (new ≡ old) × (q ≡ p))
    ⊎ (Finishes step old.dialog p q new.dialog × (new.kept ≡ old.kept))

-- the session handles the messages in a piece of input, and its output is written to the client
abbrev pub HearsItems : {P W : Type 0} → (P → (call : Call) → Reply call → P → Type 0) → (W → Option (List ℕ)) → ℕ
    → List Incoming → Dialog → P → W → Dialog → P → W → Type 0
HearsItems step contents moment items before p out after q out' =
    (text : List ℕ) × TakesTurns step moment before items p q text after × Wrote contents out text out'

-- up to `most` items are written to the client; `is_all` says whether `most` items were written
abbrev pub GivesAll : {P W : Type 0} → (P → (call : Call) → Reply call → P → Type 0) → (W → Option (List ℕ)) → ℕ
    → SessionState → P → W → Bool → SessionState → P → W → Type 0
GivesAll step contents most old p out is_all new q out' =
    (text : List ℕ) × GivesItems step most old.dialog.stage p text q is_all
    × Appends (contents out) (contents out') text × (new ≡ old)

-- the session receives items, which may not reach the client, and then ends
abbrev pub LosesAll :
    {P : Type 0} → (P → (call : Call) → Reply call → P → Type 0) → ℕ → SessionState → P → SessionState → P → Type 0
LosesAll {P} step most old p new q =
    (text : List ℕ) × (mid : P) × (is_all : Bool) × GivesItems step most old.dialog.stage p text mid is_all
    × EndsSession step old mid new q

-- up to 256 of the waiting items are received and written, and the client accepts all of them; or fewer items are
-- waiting, or the session ends
abbrev pub DeliversItems : {P W : Type 0} → (P → (call : Call) → Reply call → P → Type 0) → (W → Option (List ℕ)) → ℕ
    → SessionState → P → W → Option ℕ → SessionState → P → W → Type 0
DeliversItems step contents waiting old p out (Some n) new q out' =
    (n ≡ min waiting 256) × GivesAll step contents n old p out true new q out'
DeliversItems step contents waiting old p out None new q out' =
    GivesAll step contents (min waiting 256) old p out false new q out'
    ⊎ LosesAll step (min waiting 256) old p new q
