-- The calls of a session make its turns.
use Rattle.std.proofs.Common.{◌≡◌, ℕ, Bool, false, List, [], ◌∷◌, ◌++◌, map, refl, sym, ap, subst, ◌∙◌, append_assoc}
use Rattle.can_proto.specs.declared.message.Incoming.{Incoming}
use Rattle.can_proto.specs.Messages.{messages_of, kept_of, given_from}
use Rattle.can_dialog.specs.declared.stage.Stage.{Stage}
use Rattle.can_dialog.specs.declared.stage.Stage.TheVariants.{NoBus, Opened, Raw, Ended}
use Rattle.can_dialog.specs.declared.stage.Dialog.{Dialog}
use Rattle.can_dialog.specs.Calls.{Call, Reply}
use Rattle.can_dialog.specs.Sessions.{Turns}
use Rattle.can_dialog.specs.Lives.{Act, TurnDoes, Lives, CallDoes, IsCalled, kept_after, turns_of, heard_in}
use Rattle.can_dialog.specs.Lives.Act.{Greet, Hear, Deliver, End}

-- the turns of items, then further turns
turns_and_more : {P : Type 0} (step : P → (call : Call) → Reply call → P → Type 0) (moment : ℕ) (d : Dialog) (forgotten more : List Bool) (items : List Incoming) (acts : List (Act Incoming)) (p q r : P) (text others : List ℕ) (mid after : Dialog)
    → Turns step moment d forgotten items p q text mid → Lives step mid more acts q r others after → Lives step d (forgotten ++ more) (map (Hear moment) items ++ acts) p r (text ++ others) after
turns_and_more {P} step moment d [] more [] acts p q r text others mid after h k =
    let same : Lives step d more acts p r others after = subst (λ (x : P). Lives step d more acts x r others after) h.0 (subst (λ (x : Dialog). Lives step x more acts q r others after) h.2 k) in
    subst (λ (t : List ℕ). Lives step d more acts p r (t ++ others) after) (sym h.1) same
turns_and_more {P} step moment d (f ∷ fs) more (x ∷ items) acts p q r text others mid after h k =
    let again = turns_and_more step moment h.1 fs more items acts h.2 q r h.3 others mid after h.5 k in
    (h.0, h.1, h.2, h.3 ++ others, h.4, again, ap (λ (t : List ℕ). t ++ others) h.6 ∙ append_assoc h.0 h.3 others)
turns_and_more {P} step moment d [] more (x ∷ items) acts p q r text others mid after h k = absurd h
turns_and_more {P} step moment d (f ∷ fs) more [] acts p q r text others mid after h k = absurd h

abbrev over : ℕ → Dialog
over capacity = record { capacity = capacity; stage = Ended }

-- a session that is over does nothing at any turn
idle : {P : Type 0} (step : P → (call : Call) → Reply call → P → Type 0) (capacity : ℕ) (act : Act Incoming) (p : P) → TurnDoes step false (over capacity) act p p [] (over capacity)
idle {P} step capacity Greet p = (refl, refl, refl)
idle {P} step capacity (Hear moment item) p = (refl, refl, refl)
idle {P} step capacity Deliver p = (false, (refl, refl, refl), refl)
idle {P} step capacity End p = (refl, refl, refl)

rest : {P : Type 0} (step : P → (call : Call) → Reply call → P → Type 0) (capacity : ℕ) (acts : List (Act Incoming)) (p : P) → Lives step (over capacity) (map (λ act. false) acts) acts p p [] (over capacity)
rest {P} step capacity [] p = (refl, refl, refl)
rest {P} step capacity (act ∷ acts) p = ([], over capacity, p, [], idle step capacity act p, rest step capacity acts p, refl)

-- a session that is over does nothing at any call
refused : {P : Type 0} (step : P → (call : Call) → Reply call → P → Type 0) (capacity : ℕ) (kept : List ℕ) (acts : List (Act (List ℕ))) (p q : P) (text : List ℕ) (after : Dialog)
    → IsCalled step (over capacity) kept acts p q text after → (q ≡ p) × (text ≡ []) × (after ≡ over capacity)
refused {P} step capacity kept [] p q text after h = h
refused {P} step capacity kept (act ∷ acts) p q text after h =
    let same : IsCalled step (over capacity) (kept_after kept act) acts h.2 q h.3 after = subst (λ (x : Dialog). IsCalled step x (kept_after kept act) acts h.2 q h.3 after) h.4.2 h.5 in
    let again = refused step capacity (kept_after kept act) acts h.2 q h.3 after same in
    (again.0 ∙ h.4.0, h.6 ∙ ap (λ (t : List ℕ). t ++ h.3) h.4.1 ∙ again.1, again.2)

-- one call, then the calls after it
on : {P : Type 0} (step : P → (call : Call) → Reply call → P → Type 0) (d : Dialog) (kept : List ℕ) (act : Act (List ℕ)) (acts : List (Act (List ℕ))) (p port q : P) (first others text : List ℕ) (mid after : Dialog)
    → CallDoes step d kept act p port first mid → (forgotten : List Bool) → Lives step mid forgotten (turns_of (kept_after kept act) acts) port q others after → text ≡ first ++ others
    → (forgotten : List Bool) × Lives step d forgotten (turns_of kept (act ∷ acts)) p q text after
on {P} step d kept Greet acts p port q first others text mid after h forgotten k is = (false ∷ forgotten, (first, mid, port, others, h, k, is))
on {P} step d kept Deliver acts p port q first others text mid after h forgotten k is = (false ∷ forgotten, (first, mid, port, others, h, k, is))
on {P} step d kept End acts p port q first others text mid after h forgotten k is = (false ∷ forgotten, (first, mid, port, others, h, k, is))
on {P} step d kept (Hear moment piece) acts p port q first others text mid after h forgotten k is = (
  h.0 ++ forgotten,
  subst (λ (t : List ℕ). Lives step d (h.0 ++ forgotten) (turns_of kept (Hear moment piece ∷ acts)) p q t after) (sym is)
      (turns_and_more step moment d h.0 forgotten (messages_of (kept ++ piece)) (turns_of (kept_of (kept ++ piece)) acts) p port q first others mid after h.1 k),
)

pub lives : {P : Type 0} (step : P → (call : Call) → Reply call → P → Type 0) (capacity : ℕ) (stage : Stage) (kept : List ℕ) (acts : List (Act (List ℕ))) (p q : P) (text : List ℕ) (after : Dialog)
    → IsCalled step (record { capacity = capacity; stage = stage }) kept acts p q text after → (forgotten : List Bool) × Lives step (record { capacity = capacity; stage = stage }) forgotten (turns_of kept acts) p q text after
lives {P} step capacity stage kept [] p q text after h = ([], h)
lives {P} step capacity Ended kept (act ∷ acts) p q text after h =
    let none = refused step capacity kept (act ∷ acts) p q text after h in
    let turns = turns_of kept (act ∷ acts) in
    let fs = map (λ (x : Act Incoming). false) turns in (
      fs,
      subst (λ (x : P). Lives step (over capacity) fs turns p x text after) (sym none.0)
          (subst (λ (t : List ℕ). Lives step (over capacity) fs turns p p t after) (sym none.1)
          (subst (λ (x : Dialog). Lives step (over capacity) fs turns p p [] x) (sym none.2) (rest step capacity turns p))),
    )
lives {P} step capacity NoBus kept (act ∷ acts) p q text after h =
    let again = lives step h.1.capacity h.1.stage (kept_after kept act) acts h.2 q h.3 after h.5 in
    on step (record { capacity = capacity; stage = NoBus }) kept act acts p h.2 q h.0 h.3 text h.1 after h.4 again.0 again.1 h.6
lives {P} step capacity (Opened iface) kept (act ∷ acts) p q text after h =
    let again = lives step h.1.capacity h.1.stage (kept_after kept act) acts h.2 q h.3 after h.5 in
    on step (record { capacity = capacity; stage = Opened iface }) kept act acts p h.2 q h.0 h.3 text h.1 after h.4 again.0 again.1 h.6
lives {P} step capacity (Raw raw) kept (act ∷ acts) p q text after h =
    let again = lives step h.1.capacity h.1.stage (kept_after kept act) acts h.2 q h.3 after h.5 in
    on step (record { capacity = capacity; stage = Raw raw }) kept act acts p h.2 q h.0 h.3 text h.1 after h.4 again.0 again.1 h.6

items-heard : (moment : ℕ) (items : List Incoming) (acts : List (Act Incoming)) → heard_in (map (Hear moment) items ++ acts) ≡ items ++ heard_in acts
items-heard moment [] acts = refl
items-heard moment (x ∷ items) acts = ap (λ (xs : List Incoming). x ∷ xs) (items-heard moment items acts)

pub heard-given : (kept : List ℕ) (acts : List (Act (List ℕ))) → heard_in (turns_of kept acts) ≡ given_from kept (heard_in acts)
heard-given kept [] = refl
heard-given kept (Greet ∷ acts) = heard-given kept acts
heard-given kept (Deliver ∷ acts) = heard-given kept acts
heard-given kept (End ∷ acts) = heard-given kept acts
heard-given kept (Hear moment piece ∷ acts) =
    items-heard moment (messages_of (kept ++ piece)) (turns_of (kept_of (kept ++ piece)) acts) ∙ ap (λ (xs : List Incoming). messages_of (kept ++ piece) ++ xs) (heard-given (kept_of (kept ++ piece)) acts)
