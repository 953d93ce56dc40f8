use Rattle.std.proofs.Common.{◌≡◌, ◌+◌, ℕ, suc, List, [], ◌∷◌, ◌++◌, ◌∙◌, length, Vec, ap, sym, subst, arith}
use Rattle.can_record.specs.Journal.{Journal}
use Rattle.can_station.specs.declared.pass.Settled.{Settled}
use Rattle.can_station.specs.Passes.{PassSeen, AllOf, SettlesIn}
use Rattle.can_hub.specs.Buses.{BusSeen}
use Rattle.can_event.specs.declared.entry.Entry.{Entry}
use Rattle.can_roll.specs.Seen.{ScrollSeen, scroll_seen}
use Rattle.can_hub.specs.Settling.{AllConfigured, AllHanded, AllOwn, AllOwnScrolls, AllSettleIn, AreNewScrolls}

-- One more list is added, and all its passes belong to its bus.
pub own_push : {A : Type 0} (n m : ℕ) (before : List (Vec PassSeen A)) (own : Vec PassSeen A) → AllOwn n before → n + length before ≡ m → AllOf m own.items → AllOwn n (before ++ own ∷ [])
own_push n m [] own h at all = let same : m ≡ n = omega (arith, at) in (subst (λ (k : ℕ). AllOf k own.items) same all, tt)
own_push n m (x ∷ xs) own h at all = (h.0, own_push (suc n) m xs own h.1 (omega (arith, at)) all)

-- One more bus is added, and it is settled with its list of passes.
pub settle_push : {A L : Type 0} (left : L → Journal) (before : List (Vec PassSeen A)) (done : List (Settled L)) (own : Vec PassSeen A) (s : Settled L) → AllSettleIn left before done → SettlesIn (left s.history) s.passes own.items
    → AllSettleIn left (before ++ own ∷ []) (done ++ s ∷ [])
settle_push left [] [] own s h one = (one, tt)
settle_push left [] (y ∷ ys) own s h one = absurd h
settle_push left (x ∷ xs) [] own s h one = absurd h
settle_push left (x ∷ xs) (y ∷ ys) own s h one = (h.0, settle_push left xs ys own s h.1 one)

-- One more bus is added, and it leaves a history with its configuration.
pub configured_push : {L : Type 0} (left : L → Journal) (buses : List BusSeen) (done : List (Settled L)) (bus : BusSeen) (s : Settled L) → AllConfigured left buses done → (left s.history).config ≡ bus.config
    → AllConfigured left (buses ++ bus ∷ []) (done ++ s ∷ [])
configured_push left [] [] bus s h one = (one, tt)
configured_push left [] (y ∷ ys) bus s h one = absurd h
configured_push left (x ∷ xs) [] bus s h one = absurd h
configured_push left (x ∷ xs) (y ∷ ys) bus s h one = (h.0, configured_push left xs ys bus s h.1 one)

-- If there is no list of passes, no bus is settled.
pub settle_none : (A : Type 0) {L : Type 0} (left : L → Journal) (done : List (Settled L)) → done ≡ [] → AllSettleIn {A = A} left [] done
settle_none A {L} left done none = subst (λ (d : List (Settled L)). AllSettleIn {A = A} left [] d) (sym none) tt

-- One more scroll is added, which no entry was handed to.
pub new_push : (n m : ℕ) (before : List ScrollSeen) (scroll : ScrollSeen) → AreNewScrolls n before → n + length before ≡ m → scroll ≡ scroll_seen m [] → AreNewScrolls n (before ++ scroll ∷ [])
new_push n m [] scroll h at is = let same : m ≡ n = omega (arith, at) in (is ∙ ap (λ (k : ℕ). scroll_seen k []) same, tt)
new_push n m (x ∷ xs) scroll h at is = (h.0, new_push (suc n) m xs scroll h.1 (omega (arith, at)) is)

-- One more scroll is added, and it belongs to its bus.
pub own_scroll_push : (n m : ℕ) (before : List ScrollSeen) (scroll : ScrollSeen) → AllOwnScrolls n before → n + length before ≡ m → scroll.number ≡ m → AllOwnScrolls n (before ++ scroll ∷ [])
own_scroll_push n m [] scroll h at is = let same : m ≡ n = omega (arith, at) in (is ∙ same, tt)
own_scroll_push n m (x ∷ xs) scroll h at is = (h.0, own_scroll_push (suc n) m xs scroll h.1 (omega (arith, at)) is)

-- One more bus is added, and it handed out exactly the entries of its scroll.
pub handed_push : {L : Type 0} (handed : L → List Entry) (before : List ScrollSeen) (done : List (Settled L)) (scroll : ScrollSeen) (s : Settled L) → AllHanded handed before done → scroll.entries ≡ handed s.history
    → AllHanded handed (before ++ scroll ∷ []) (done ++ s ∷ [])
handed_push handed [] [] scroll s h one = (one, tt)
handed_push handed [] (y ∷ ys) scroll s h one = absurd h
handed_push handed (x ∷ xs) [] scroll s h one = absurd h
handed_push handed (x ∷ xs) (y ∷ ys) scroll s h one = (h.0, handed_push handed xs ys scroll s h.1 one)
