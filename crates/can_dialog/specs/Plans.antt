use Rattle.std.specs.Prelude.{◌≡◌, ℕ, List}
use Rattle.can_dialog.specs.Calls.{Call, Reply}

-- The plan of a session's turn: its port calls, which may depend on earlier replies (own choice).

-- A plan ends with a text for the client and an outcome (`Tell`), or it calls the port and the reply decides how it
-- continues (`Ask`).
pub data Plan (A : Type 0) : Type 0 where
  Tell : List ℕ → A → Plan A
  Ask : (call : Call) → (Reply call → Plan A) → Plan A

-- the port takes the calls of the plan in order; its replies lead to this text and this outcome
abbrev pub Plays : {P A : Type 0} → (P → (call : Call) → Reply call → P → Type 0) → Plan A → P → P → List ℕ → A → Type 0
Plays {P} {A} step (Tell said after) p q text outcome = (q ≡ p) × (text ≡ said) × (outcome ≡ after)
Plays {P} {A} step (Ask call next) p q text outcome =
    (reply : Reply call) × (mid : P) × step p call reply mid × Plays step (next reply) mid q text outcome
