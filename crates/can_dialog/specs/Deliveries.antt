use Rattle.std.specs.Prelude.{◌≡◌, ◌<◌, ℕ, zero, suc, Bool, true, false, List, [], ◌++◌}
use Rattle.can_event.specs.declared.received.Received.{Received}
use Rattle.can_proto.specs.declared.answer.Answer.TheVariants as answer
use Rattle.can_proto.specs.Spelling.{answer_text, item_text, item_text_from}
use Rattle.can_dialog.specs.declared.delivery.Delivery.{Delivery}
use Rattle.can_dialog.specs.declared.delivery.Delivery.TheVariants.{Nothing, Item, ItemFrom, Refused}
use Rattle.can_dialog.specs.declared.stage.Stage.{Stage}
use Rattle.can_dialog.specs.Calls.{Call, Reply}
use Rattle.can_dialog.specs.Plans.{Plays}
use Rattle.can_dialog.specs.Turns.{delivery, origin_of}

-- The items that a client receives (own choice).

-- the text of a delivery, if this item is in the buffer
abbrev pub delivery_text : Delivery → Received → List ℕ
delivery_text Nothing room = []
delivery_text (Item errdata) room = item_text errdata room.item room.moment
delivery_text (ItemFrom errdata same) room = item_text_from errdata (origin_of same room.number) room.item room.moment
delivery_text (Refused why) room = answer_text (answer.Refused why)

-- whether the delivery is an item
abbrev pub is_item : Delivery → Bool
is_item (Item errdata) = true
is_item (ItemFrom errdata same) = true
is_item _ = false

-- one delivery at this stage over the port; `given` is its result, and `room` is the buffer that holds a received item
abbrev pub ReceivesInto :
    {P : Type 0} → (P → (call : Call) → Reply call → P → Type 0) → Stage → P → P → Delivery → Received → Type 0
ReceivesInto {P} step stage p q given room = Plays step (delivery stage) p q (delivery_text given room) (is_item given)

-- a client receives this many items, one after another
abbrev pub AreGiven : {P : Type 0} → (P → (call : Call) → Reply call → P → Type 0) → ℕ → Stage → P → List ℕ → P → Type 0
AreGiven {P} step zero stage p text q = (text ≡ []) × (q ≡ p)
AreGiven {P} step (suc n) stage p text q =
    (before : List ℕ) × (mid : P) × (last : List ℕ)
    × AreGiven step n stage p before mid
    × Plays step (delivery stage) mid q last true
    × (text ≡ before ++ last)

-- a client receives this many items, or fewer if the next receive has none
abbrev pub GivesItems :
    {P : Type 0} → (P → (call : Call) → Reply call → P → Type 0) → ℕ → Stage → P → List ℕ → P → Bool → Type 0
GivesItems {P} step most stage p text q true = AreGiven step most stage p text q
GivesItems {P} step most stage p text q false =
    (n : ℕ) × (before : List ℕ) × (mid : P) × (last : List ℕ) × (n < most)
    × AreGiven step n stage p before mid × Plays step (delivery stage) mid q last false × (text ≡ before ++ last)
