-- The turns with one more item, and the turns with two lists of items, one after the other.
use Rattle.std.proofs.Common.{◌≡◌, ℕ, Bool, List, [], ◌∷◌, ◌++◌, refl, sym, ap, subst, ◌∙◌, append_assoc, ◌+◌, ◌<◌, length, take, get_or, Result, Ok, Err, false}
use Rattle.std.specs.Prelude.{OnOk}
use Rattle.std.specs.Result.{is_err}
use Rattle.std.proofs.lemmas.List.{append-nil, take_more}
use Rattle.can_proto.specs.declared.message.Incoming.{Incoming}
use Rattle.can_dialog.specs.declared.stage.Dialog.{Dialog}
use Rattle.can_dialog.specs.Calls.{Call, Reply}
use Rattle.can_dialog.specs.Plans.{Plays}
use Rattle.can_dialog.specs.Turns.{turn}
use Rattle.can_dialog.specs.Sessions.{Turns}

-- one more item
pub turns_more : {P : Type 0} (step : P → (call : Call) → Reply call → P → Type 0) (moment : ℕ) (d : Dialog) (forgotten : List Bool) (items : List Incoming) (p q r : P) (text more : List ℕ) (mid after : Dialog) (forgot : Bool) (item : Incoming)
    → Turns step moment d forgotten items p q text mid → Plays step (turn forgot moment mid item) q r more after → Turns step moment d (forgotten ++ forgot ∷ []) (items ++ item ∷ []) p r (text ++ more) after
turns_more {P} step moment d [] [] p q r text more mid after forgot item h k =
    let play : Plays step (turn forgot moment d item) p r more after = subst (λ (x : P). Plays step (turn forgot moment d item) x r more after) h.0 (subst (λ (x : Dialog). Plays step (turn forgot moment x item) q r more after) h.2 k) in
    (more, after, r, [], play, (refl, refl, refl), ap (λ (t : List ℕ). t ++ more) h.1 ∙ sym (append-nil more))
turns_more {P} step moment d (f ∷ fs) (x ∷ items) p q r text more mid after forgot item h k =
    let again = turns_more step moment h.1 fs items h.2 q r h.3 more mid after forgot item h.5 k in
    (h.0, h.1, h.2, h.3 ++ more, h.4, again, ap (λ (t : List ℕ). t ++ more) h.6 ∙ append_assoc h.0 h.3 more)
turns_more {P} step moment d [] (x ∷ items) p q r text more mid after forgot item h k = absurd h
turns_more {P} step moment d (f ∷ fs) [] p q r text more mid after forgot item h k = absurd h

pub on_ok : {T E P : Type 0} (r : Result T E) → is_err r ≡ false → OnOk r P → P
on_ok (Ok x) e h = h
on_ok (Err x) e h = absurd cc

pub taken_more : (items : List Incoming) (i : ℕ) (item : Incoming) → i < length items → item ≡ get_or items i item → take (i + 1) items ≡ take i items ++ item ∷ []
taken_more items i item lt is = take_more items i item lt ∙ ap (λ (x : Incoming). take i items ++ x ∷ []) (sym is)

pub turns_taken : {P : Type 0} (step : P → (call : Call) → Reply call → P → Type 0) (moment : ℕ) (d : Dialog) (forgotten : List Bool) (items : List Incoming) (p q r : P) (text more : List ℕ) (mid after : Dialog) (forgot : Bool) (i : ℕ) (item : Incoming)
    → i < length items → item ≡ get_or items i item
    → Turns step moment d forgotten (take i items) p q text mid → Plays step (turn forgot moment mid item) q r more after → Turns step moment d (forgotten ++ forgot ∷ []) (take (i + 1) items) p r (text ++ more) after
turns_taken {P} step moment d forgotten items p q r text more mid after forgot i item lt is h k =
    subst (λ (xs : List Incoming). Turns step moment d (forgotten ++ forgot ∷ []) xs p r (text ++ more) after) (sym (taken_more items i item lt is)) (turns_more step moment d forgotten (take i items) p q r text more mid after forgot item h k)

-- two lists of items, one after the other
pub turns_join : {P : Type 0} (step : P → (call : Call) → Reply call → P → Type 0) (moment : ℕ) (d : Dialog) (forgotten others : List Bool) (items later : List Incoming) (p q r : P) (text more : List ℕ) (mid after : Dialog)
    → Turns step moment d forgotten items p q text mid → Turns step moment mid others later q r more after → Turns step moment d (forgotten ++ others) (items ++ later) p r (text ++ more) after
turns_join {P} step moment d [] others [] later p q r text more mid after h k =
    let same : Turns step moment d others later p r more after = subst (λ (x : P). Turns step moment d others later x r more after) h.0 (subst (λ (x : Dialog). Turns step moment x others later q r more after) h.2 k) in
    subst (λ (t : List ℕ). Turns step moment d others later p r (t ++ more) after) (sym h.1) same
turns_join {P} step moment d (f ∷ fs) others (x ∷ items) later p q r text more mid after h k =
    let again = turns_join step moment h.1 fs others items later h.2 q r h.3 more mid after h.5 k in
    (h.0, h.1, h.2, h.3 ++ more, h.4, again, ap (λ (t : List ℕ). t ++ more) h.6 ∙ append_assoc h.0 h.3 more)
turns_join {P} step moment d [] others (x ∷ items) later p q r text more mid after h k = absurd h
turns_join {P} step moment d (f ∷ fs) others [] later p q r text more mid after h k = absurd h
