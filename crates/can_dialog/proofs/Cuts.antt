-- Pieces that are fed in order make the same turns as the whole stream, and conversely.
use Rattle.std.proofs.Common.{◌≡◌, ℕ, Bool, List, [], ◌∷◌, ◌++◌, refl, sym, ap, subst, ◌∙◌, append_assoc}
use Rattle.can_proto.specs.declared.message.Incoming.{Incoming}
use Rattle.can_proto.specs.Messages.{messages_of, kept_of, given_from}
use Rattle.can_dialog.specs.declared.stage.Dialog.{Dialog}
use Rattle.can_dialog.specs.Calls.{Call, Reply}
use Rattle.can_dialog.specs.Sessions.{Turns, Feeds}
use Rattle.can_dialog.proofs.Turning.{turns_join}

-- the turns of two lists are the turns of the first list, then the turns of the second list
parted : {P : Type 0} (step : P → (call : Call) → Reply call → P → Type 0) (moment : ℕ) (d : Dialog) (forgotten : List Bool) (items later : List Incoming) (p r : P) (text : List ℕ) (after : Dialog)
    → Turns step moment d forgotten (items ++ later) p r text after
    → (some : List Bool) × (first : List ℕ) × (mid : Dialog) × (port : P) × (more : List Bool) × (others : List ℕ) × Turns step moment d some items p port first mid × Turns step moment mid more later port r others after × (text ≡ first ++ others)
parted {P} step moment d forgotten [] later p r text after h = ([], [], d, p, forgotten, text, (refl, refl, refl), h, refl)
parted {P} step moment d [] (x ∷ items) later p r text after h = absurd h
parted {P} step moment d (f ∷ fs) (x ∷ items) later p r text after h =
    let again = parted step moment h.1 fs items later h.2 r h.3 after h.5 in
    (f ∷ again.0, h.0 ++ again.1, again.2, again.3, again.4, again.5, (h.0, h.1, h.2, again.1, h.4, again.6, refl), again.7, h.6 ∙ ap (λ (t : List ℕ). h.0 ++ t) again.8 ∙ sym (append_assoc h.0 again.1 again.5))

pub of_pieces : {P : Type 0} (step : P → (call : Call) → Reply call → P → Type 0) (moment : ℕ) (d : Dialog) (before : List ℕ) (pieces : List (List ℕ)) (p q : P) (text : List ℕ) (after : Dialog)
    → Feeds step moment d before pieces p q text after → (forgotten : List Bool) × Turns step moment d forgotten (given_from before pieces) p q text after
of_pieces {P} step moment d before [] p q text after h = ([], h)
of_pieces {P} step moment d before (piece ∷ pieces) p q text after h =
    let again = of_pieces step moment h.2 (kept_of (before ++ piece)) pieces h.3 q h.4 after h.6 in
    let joined = turns_join step moment d h.0 again.0 (messages_of (before ++ piece)) (given_from (kept_of (before ++ piece)) pieces) p h.3 q h.1 h.4 h.2 after h.5 again.1 in
    (h.0 ++ again.0, subst (λ (t : List ℕ). Turns step moment d (h.0 ++ again.0) (given_from before (piece ∷ pieces)) p q t after) (sym h.7) joined)

pub in_pieces : {P : Type 0} (step : P → (call : Call) → Reply call → P → Type 0) (moment : ℕ) (d : Dialog) (forgotten : List Bool) (before : List ℕ) (pieces : List (List ℕ)) (p q : P) (text : List ℕ) (after : Dialog)
    → Turns step moment d forgotten (given_from before pieces) p q text after → Feeds step moment d before pieces p q text after
in_pieces {P} step moment d [] before [] p q text after h = h
in_pieces {P} step moment d (f ∷ fs) before [] p q text after h = absurd h
in_pieces {P} step moment d forgotten before (piece ∷ pieces) p q text after h =
    let s = parted step moment d forgotten (messages_of (before ++ piece)) (given_from (kept_of (before ++ piece)) pieces) p q text after h in
    (s.0, s.1, s.2, s.3, s.5, s.6, in_pieces step moment s.2 s.4 (kept_of (before ++ piece)) pieces s.3 q s.5 after s.7, s.8)
