use Rattle.std.proofs.Common.{◌≡◌, ℕ, ◌+◌, ◌<◌, ◌≤◌, List, [], ◌∷◌, ◌++◌, length, take, drop, get_or, reverse, sym, ap, ◌∙◌, subst}
use Rattle.std.proofs.lemmas.List.{take_more, take_all, take-append-drop, reverse-append}
use Rattle.can_event.specs.declared.bus_config.BusConfig.{BusConfig}
use Rattle.can_event.specs.declared.entry.Entry.{Entry}
use Rattle.can_bus.specs.Legal.{IsLegal}
use Rattle.can_bus.proofs.LifeFacts.{legal-before}
use Rattle.can_replay.specs.Histories.{before}

-- Reading entry k extends the history by this entry.

pub before_more : (es : List Entry) (k : ℕ) (e : Entry) → k < length es → e ≡ get_or es k e → before es (k + 1) ≡ e ∷ before es k
before_more es k e lt read =
    ap reverse (take_more es k e lt) ∙ reverse-append (take k es) (get_or es k e ∷ []) ∙ ap (λ (x : Entry). x ∷ before es k) (sym read)

pub before_all : (es : List Entry) (k : ℕ) → length es ≤ k → before es k ≡ reverse es
before_all es k le = ap reverse (take_all k es le)

-- The first entries of a legal history are also a legal history.
pub legal_front : (c : BusConfig) (es : List Entry) (k : ℕ) → IsLegal c (reverse es) → IsLegal c (before es k)
legal_front c es k h =
    let split : reverse es ≡ reverse (drop k es) ++ before es k = ap reverse (sym (take-append-drop k es)) ∙ reverse-append (take k es) (drop k es) in
    legal-before c (reverse (drop k es)) (before es k) (subst (IsLegal c) split h)
