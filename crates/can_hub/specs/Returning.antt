use Rattle.std.specs.Prelude.{◌≡◌, ◌≤◌, ◌⊎◌, ℕ, Option, Some, None, List, [], ◌∷◌}
use Rattle.std.specs.Prelude.{◌++◌, All, Vec, vec_len, vec_capacity, slice_index_or}
use Rattle.can_station.specs.Passes.{PassSeen}

-- The passes that the threads of a server give back (own choice).

-- A pass is appended to a list. It may be lost if the list is full.
abbrev pub AddsPass : {A : Type 0} → Vec PassSeen A → PassSeen → Vec PassSeen A → Type 0
AddsPass old pass new =
    (new.items ≡ old.items ++ pass ∷ []) ⊎ ((vec_capacity old ≤ vec_len old) × (new.items ≡ old.items))

-- A pass is appended to the list of its own bus. It may be lost if the list is full.
abbrev pub AddsOwn : {A : Type 0} → List (Vec PassSeen A) → PassSeen → List (Vec PassSeen A) → Type 0
AddsOwn {A} old pass new =
    (d : Vec PassSeen A) → AddsPass (slice_index_or old pass.number d) pass (slice_index_or new pass.number d)

-- The last pass is removed from a list, or no pass is removed and the list does not change.
abbrev pub RemovesPass : {A : Type 0} → Vec PassSeen A → Option PassSeen → Vec PassSeen A → Type 0
RemovesPass old (Some pass) new = old.items ≡ new.items ++ pass ∷ []
RemovesPass old None new = new.items ≡ old.items

-- The last pass is removed from the list of this bus, or no pass is removed and the list does not change.
abbrev pub RemovesOwn : {A : Type 0} → List (Vec PassSeen A) → ℕ → Option PassSeen → List (Vec PassSeen A) → Type 0
RemovesOwn {A} old bus pass new =
    (d : Vec PassSeen A) → RemovesPass (slice_index_or old bus d) pass (slice_index_or new bus d)

-- All lists of passes are empty.
abbrev pub AllEmpty : {A : Type 0} → List (Vec PassSeen A) → Type 0
AllEmpty lists = All (λ own. own.items ≡ []) lists
