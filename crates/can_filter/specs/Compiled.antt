use Rattle.std.specs.Prelude.{◌≡◌, ◌≤◌, ℕ, Bool, true, false, List, length, Option, Some, None}
use Rattle.std.specs.Global.{Box}
use Rattle.can_filter.specs.Filters.{CanFilter, receives_all}
use Rattle.can_filter.specs.Lookups.{is_matched}
use Rattle.can_filter.specs.Parts.{is_found_in}
use Rattle.can_filter.specs.declared.compiled.Compiled.{Compiled}
use Rattle.can_filter.specs.declared.filter_set.FilterSet.TheInside.{Inside}

-- Compiled filters, and the sets that hold them. Callers do not need to know this.

-- the compiled filters find the word (own choice)
abbrev pub finds : Compiled → ℕ → Bool
finds compiled word = is_found_in compiled.parts word

-- the compiled filters find exactly the words that at least one of these filters matches (own choice)
abbrev pub FindsMatchesOf : List CanFilter → Compiled → Type 0
FindsMatchesOf filters compiled = (word : ℕ) → finds compiled word ≡ is_matched filters word

-- the compiled form that a set may hold in addition to its filters fits these filters (own choice)
abbrev pub IsCompiledOf : Option (Box Compiled) → List CanFilter → Type 0
IsCompiledOf None filters = Unit {0}
IsCompiledOf (Some compiled) filters = FindsMatchesOf filters compiled.value

-- a set that is marked as open has exactly the one filter that receives everything (own choice)
abbrev pub IsOpenOf : Bool → List CanFilter → Type 0
IsOpenOf true filters = filters ≡ receives_all
IsOpenOf false filters = Unit {0}

-- the invariant of a set: it has at most 512 filters (CAN_RAW_FILTER_MAX of linux/can.h), and its compiled form and its
-- mark fit these filters
abbrev pub IsFilterSet : Inside → Type 0
IsFilterSet s =
    (length s.filters.items ≤ 512) × IsCompiledOf s.compiled s.filters.items × IsOpenOf s.is_open s.filters.items
