use Rattle.std.specs.Prelude.{◌≡◌, ◌⊎◌, ℕ, suc, List, [], ◌∷◌, ◌++◌, length, Vec}
use Rattle.std.specs.List.{AllZip}
use Rattle.can_event.specs.declared.entry.Entry.{Entry}
use Rattle.can_record.specs.Journal.{Journal, Kept}
use Rattle.can_roll.specs.Seen.{ScrollSeen, scroll_seen}
use Rattle.can_hub.specs.Buses.{BusSeen}
use Rattle.can_station.specs.declared.pass.Settled.{Settled}
use Rattle.can_station.specs.Passes.{PassSeen, AllOf, SomeOther, SettlesIn}

-- The end of a hub. Each bus is settled with the list of its passes.

-- Each list contains only passes of its own bus. The first list belongs to bus n.
abbrev pub AllOwn : {A : Type 0} → ℕ → List (Vec PassSeen A) → Type 0
AllOwn n [] = Unit {0}
AllOwn n (own ∷ more) = AllOf n own.items × AllOwn (suc n) more

-- Each bus leaves a history that matches the calls of the passes in its list.
abbrev pub AllSettleIn : {A L : Type 0} → (L → Journal) → List (Vec PassSeen A) → List (Settled L) → Type 0
AllSettleIn left [] [] = Unit {0}
AllSettleIn left (own ∷ more) (s ∷ rest) = SettlesIn (left s.history) s.passes own.items × AllSettleIn left more rest
AllSettleIn left [] (s ∷ rest) = ⊥
AllSettleIn left (own ∷ more) [] = ⊥

-- Each bus leaves a record that matches the calls of the passes in its list.
abbrev pub AllSettle : {A : Type 0} → List (Vec PassSeen A) → List (Settled Kept) → Type 0
AllSettle passes settled = AllSettleIn (λ (r : Kept). record { config = r.config; history = r.history }) passes settled

-- Each bus leaves a history with the configuration of the bus.
abbrev pub AllConfigured : {L : Type 0} → (L → Journal) → List BusSeen → List (Settled L) → Type 0
AllConfigured left buses settled = AllZip (λ bus s. (left s.history).config ≡ bus.config) buses settled

-- The list of this bus is the first list that contains a pass of another station.
pub record FirstForeign {A : Type 0} (passes : List (Vec PassSeen A)) (bus : ℕ) : Type 0 where
  pub before : List (Vec PassSeen A)
  pub own : Vec PassSeen A
  pub after : List (Vec PassSeen A)
  pub lists : passes ≡ before ++ own ∷ after
  pub place : bus ≡ length before
  pub earlier : AllOwn 0 before
  pub foreign : SomeOther bus own.items

-- Each bus has a new scroll, which no entry was handed to. The first scroll belongs to bus n.
abbrev pub AreNewScrolls : ℕ → List ScrollSeen → Type 0
AreNewScrolls n [] = Unit {0}
AreNewScrolls n (scroll ∷ more) = (scroll ≡ scroll_seen n []) × AreNewScrolls (suc n) more

-- Each scroll belongs to its own bus. The first scroll belongs to bus n.
abbrev pub AllOwnScrolls : ℕ → List ScrollSeen → Type 0
AllOwnScrolls n [] = Unit {0}
AllOwnScrolls n (scroll ∷ more) = (scroll.number ≡ n) × AllOwnScrolls (suc n) more

-- Each scroll contains exactly the entries that its bus handed out.
abbrev pub AllHanded : {L : Type 0} → (L → List Entry) → List ScrollSeen → List (Settled L) → Type 0
AllHanded handed scrolls settled = AllZip (λ scroll s. scroll.entries ≡ handed s.history) scrolls settled

-- This bus is the first whose scroll belongs to another station, or whose list contains a pass of another station.
pub record FirstForeignScroll {A : Type 0} (passes : List (Vec PassSeen A)) (scrolls : List ScrollSeen)
    (bus : ℕ) : Type 0 where
  pub before : List (Vec PassSeen A)
  pub own : Vec PassSeen A
  pub after : List (Vec PassSeen A)
  pub lists : passes ≡ before ++ own ∷ after
  pub place : bus ≡ length before
  pub earlier : AllOwn 0 before
  pub scrolls_before : List ScrollSeen
  pub scroll : ScrollSeen
  pub scrolls_after : List ScrollSeen
  pub scrolls_are : scrolls ≡ scrolls_before ++ scroll ∷ scrolls_after
  pub scroll_place : bus ≡ length scrolls_before
  pub earlier_scrolls : AllOwnScrolls 0 scrolls_before
  pub foreign : ¬ (scroll.number ≡ bus) ⊎ SomeOther bus own.items
