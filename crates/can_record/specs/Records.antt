use Rattle.std.specs.Prelude.{◌≡◌, ℕ, Bool, List, [], ◌∷◌, ◌++◌}
use Rattle.can_event.specs.declared.entry.Entry.{Entry}

-- The entries, the oldest first, and the number of entries for which there is memory.
pub record PackedEntries : Type 0 where
  pub entries : List Entry
  pub room : ℕ

-- The same for a growing list, and whether it has memory for an entry that needs a box.
pub record ListedEntries : Type 0 where
  pub entries : List Entry
  pub room : ℕ
  pub spare : Bool

-- The new list is the old one with this entry added at the end, as the newest (own choice).
abbrev pub Adds : List Entry → Entry → List Entry → Type 0
Adds old e new = new ≡ old ++ e ∷ []
