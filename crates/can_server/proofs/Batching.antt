-- Items that are received one after another, and the strings for these items.
use Rattle.std.proofs.Common.{◌≡◌, ◌≢◌, ℕ, ◌+◌, ◌<◌, ◌≤◌, ◌==◌, Bool, true, false, List, [], ◌∷◌, ◌++◌, length, take, drop, get_or, set, min, Option, refl, sym, ap, subst, ◌∙◌, append-nil, append_assoc, add-one, take-append-drop, arith}
use Rattle.std.specs.Io.KnownBytes.{Appends}
use Rattle.std.proofs.KnownBytes.{Appends-trans}
use Rattle.std.proofs.lemmas.Bool.{eqb-false, eqb-true}
use Rattle.std.proofs.lemmas.List.{take_more, take_more_set}
use Rattle.std.proofs.lemmas.List.Concat.{flat_map-append}
use Rattle.can_server.specs.declared.batch.Room.{Room}
use Rattle.can_dialog.specs.declared.stage.Stage.{Stage}
use Rattle.can_dialog.specs.Calls.{Call, Reply}
use Rattle.can_dialog.specs.Plans.{Plays}
use Rattle.can_dialog.specs.Turns.{delivery}
use Rattle.can_dialog.specs.Deliveries.{AreGiven, GivesItems, ReceivesInto, delivery_text, is_item}
use Rattle.can_server.specs.Batches.{texts_of}

-- the string for the item in a buffer
abbrev pub text_of : Room → List ℕ
text_of r = delivery_text r.delivery r.item

one_text : (rooms : List Room) (room : Room) → texts_of (rooms ++ room ∷ []) ≡ texts_of rooms ++ text_of room
one_text rooms room = flat_map-append text_of rooms (room ∷ []) ∙ ap (λ (t : List ℕ). texts_of rooms ++ t) (append-nil (text_of room))

-- the strings for the first buffers and the next one
pub text_more : (rooms : List Room) (i : ℕ) (room : Room) → i < length rooms → room ≡ get_or rooms i room → texts_of (take (i + 1) rooms) ≡ texts_of (take i rooms) ++ text_of room
text_more rooms i room below is =
    ap texts_of (take_more rooms i room below ∙ ap (λ (r : Room). take i rooms ++ r ∷ []) (sym is)) ∙ one_text (take i rooms) room

-- the strings after buffer `i` was filled
text_set : (rooms : List Room) (i : ℕ) (room : Room) → i < length rooms → texts_of (take (i + 1) (set rooms i room)) ≡ texts_of (take i rooms) ++ text_of room
text_set rooms i room below = ap texts_of (take_more_set rooms i room below) ∙ one_text (take i rooms) room

-- the strings for the first buffers, followed by the strings for the remaining buffers
pub text_rest : (rooms : List Room) (i : ℕ) (front : List ℕ) → front ≡ texts_of (take i rooms) → front ++ texts_of (drop i rooms) ≡ texts_of rooms
text_rest rooms i front is =
    ap (λ (t : List ℕ). t ++ texts_of (drop i rooms)) is ∙ sym (flat_map-append text_of (take i rooms) (drop i rooms)) ∙ ap texts_of (take-append-drop i rooms)

module _ {P : Type 0} (step : P → (call : Call) → Reply call → P → Type 0) (stage : Stage) (p : P) where
  module _ (mid q : P) (rooms : List Room) (i : ℕ) (room : Room) (below : i < length rooms) (given : AreGiven step i stage p (texts_of (take i rooms)) mid) (received : ReceivesInto step stage mid q room.delivery room.item) where
    -- one more item
    pub given_more : is_item room.delivery ≡ true → AreGiven step (i + 1) stage p (texts_of (take (i + 1) (set rooms i room))) q
    given_more is =
        let plays : Plays step (delivery stage) mid q (text_of room) true = subst (λ (b : Bool). Plays step (delivery stage) mid q (text_of room) b) is received in
        subst (λ (n : ℕ). AreGiven step n stage p (texts_of (take (i + 1) (set rooms i room))) q) (sym (add-one i)) (texts_of (take i rooms), mid, text_of room, given, plays, text_set rooms i room below)

    -- the last receive, which returned no item
    pub given_last : (most : ℕ) → i < most → is_item room.delivery ≡ false → GivesItems step most stage p (texts_of (take (i + 1) (set rooms i room))) q false
    given_last most low is =
        let plays : Plays step (delivery stage) mid q (text_of room) false = subst (λ (b : Bool). Plays step (delivery stage) mid q (text_of room) b) is received in
        (i, texts_of (take i rooms), mid, text_of room, low, given, plays, text_set rooms i room below)

  module _ (q : P) (most items used : ℕ) (rooms front : List Room) (same : front ≡ take used rooms) (uses : used ≡ min most (items + 1)) (within : items ≤ most) (all : items ≡ most → GivesItems step most stage p (texts_of (take most rooms)) q true) (few : items < most → GivesItems step most stage p (texts_of (take (items + 1) rooms)) q false) where
    -- the filled buffers contain all items
    used_all : items ≡ most → GivesItems step most stage p (texts_of front) q true
    used_all is =
        let n : most ≡ used = omega (arith, uses, is) in
        subst (λ (rs : List Room). GivesItems step most stage p (texts_of rs) q true) (sym same) (subst (λ (k : ℕ). GivesItems step most stage p (texts_of (take k rooms)) q true) n (all is))

    -- the filled buffers include the buffer of the receive that returned no item
    used_few : items < most → GivesItems step most stage p (texts_of front) q false
    used_few low =
        let n : items + 1 ≡ used = omega (arith, uses, low) in
        subst (λ (rs : List Room). GivesItems step most stage p (texts_of rs) q false) (sym same) (subst (λ (k : ℕ). GivesItems step most stage p (texts_of (take k rooms)) q false) n (few low))

    used_as : (is_all : Bool) → (is_all ≡ true → items ≡ most) → (is_all ≡ false → items < most) → GivesItems step most stage p (texts_of front) q is_all
    used_as true full less = used_all (full refl)
    used_as false full less = used_few (less refl)

    -- in both cases, the filled buffers contain all items
    pub used_rooms : GivesItems step most stage p (texts_of front) q (items == most)
    used_rooms = used_as (items == most) (λ e. eqb-true items most e) (λ e. (let other : items ≢ most = eqb-false items most e in omega (arith, other, within)))

module _ {W : Type 0} (contents : W → Option (List ℕ)) (old : W) (rooms : List Room) where
  -- the strings for the first buffers: the writer accepted the first part, and `text` contains the rest
  abbrev pub Waits : ℕ → W → List ℕ → Type 0
  Waits i out text = (gone : List ℕ) × Appends (contents old) (contents out) gone × (gone ++ text ≡ texts_of (take i rooms))

  -- the writer accepted the first `n` bytes of `text`
  pub front_out : (i n : ℕ) (out new : W) (text rest : List ℕ) → Waits i out text → Appends (contents out) (contents new) (take n text) → rest ≡ drop n text → Waits i new rest
  front_out i n out new text rest (gone, took, is) more left = (
    gone ++ take n text,
    Appends-trans (contents old) (contents out) (contents new) gone (take n text) took more,
    ap (λ (t : List ℕ). (gone ++ take n text) ++ t) left ∙ append_assoc gone (take n text) (drop n text) ∙ ap (λ (t : List ℕ). gone ++ t) (take-append-drop n text) ∙ is,
  )

  -- one more string is appended to `text`
  pub added : (i : ℕ) (out : W) (text more : List ℕ) (room : Room) → i < length rooms → room ≡ get_or rooms i room → Waits i out text → more ≡ text ++ text_of room → Waits (i + 1) out more
  added i out text more room below here (gone, took, is) grown = (
    gone,
    took,
    ap (λ (t : List ℕ). gone ++ t) grown ∙ sym (append_assoc gone text (text_of room)) ∙ ap (λ (t : List ℕ). t ++ text_of room) is ∙ sym (text_more rooms i room below here),
  )
