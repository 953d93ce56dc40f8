use Rattle.std.specs.Prelude.{ℕ, Bool, List, IsTrue}
use Rattle.std.specs.List.{list_any}
use Rattle.can_filter.specs.Filters.{CanFilter, agrees, matches}

-- Gates: filters that make it unnecessary to test each filter of a list.

-- every word that passes the test agrees with the gate, whether or not the gate is marked as inverted
abbrev pub IsGateTo : CanFilter → (ℕ → Bool) → Type 0
IsGateTo gate passing = (received : ℕ) → IsTrue (passing received) → IsTrue (agrees gate received)

-- every word that at least one of the filters matches agrees with the gate
abbrev pub IsGate : CanFilter → List CanFilter → Type 0
IsGate gate filters = IsGateTo gate (λ received. list_any (λ f. matches f received) filters)
