use Rattle.std.specs.Prelude.{ℕ, Bool}
use Rattle.can_filter.specs.Lookups.{is_found}
use Rattle.can_filter.specs.declared.lookup.Parts.{Parts}

-- What is found in the parts. Nothing that a caller has to know.

-- the word is found in one of these parts (own choice)
abbrev pub is_found_in : Parts → ℕ → Bool
is_found_in parts word = is_found parts.standard parts.extended.items parts.masked.items parts.inverted.items word
