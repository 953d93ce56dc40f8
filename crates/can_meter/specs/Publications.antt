use Rattle.std.specs.Prelude.{ℕ, zero, suc, List, [], ◌∷◌, length, if◌then◌else◌, nat_le}
use mathlib.Core.List.{IsSuffix}
use Rattle.can_confine.specs.Confinement.{at_start}
use Rattle.can_meter.specs.declared.status.Status.{Status}

-- Each interface has a list of publications, the newest first. A publication is a status.

-- the status of an interface before its first publication: no entry, and both counts 0
abbrev pub status_at_start : Status
status_at_start = record { at = 0; counters = at_start }

-- the newest of these publications, or `status_at_start` if there is none
abbrev pub newest : List Status → Status
newest [] = status_at_start
newest (p ∷ ps) = p

-- the list of interface i; it is empty if there is no list with this number
abbrev pub published : List (List Status) → ℕ → List Status
published [] i = []
published (ps ∷ lists) zero = ps
published (ps ∷ lists) (suc i) = published lists i

-- the lists after ps replaced the list of interface i
abbrev pub with_list : List (List Status) → ℕ → List Status → List (List Status)
with_list [] zero ps = ps ∷ []
with_list [] (suc i) ps = [] ∷ with_list [] i ps
with_list (qs ∷ lists) zero ps = ps ∷ lists
with_list (qs ∷ lists) (suc i) ps = qs ∷ with_list lists i ps

-- the lists after interface i published p
abbrev pub with_newest : List (List Status) → ℕ → Status → List (List Status)
with_newest lists i p = with_list lists i (p ∷ published lists i)

-- the longer of two lists, and the second if neither is longer
abbrev pub longer : List Status → List Status → List Status
longer ps qs = if nat_le (length ps) (length qs) then qs else ps

-- for each interface, the longer of its two lists
abbrev pub longer_lists : List (List Status) → List (List Status) → List (List Status)
longer_lists [] others = others
longer_lists (ps ∷ lists) [] = ps ∷ lists
longer_lists (ps ∷ lists) (qs ∷ others) = longer ps qs ∷ longer_lists lists others

-- for each interface the older list is a suffix of the newer: the newer one may have more publications in front
abbrev pub AreEndsOf : List (List Status) → List (List Status) → Type 0
AreEndsOf older lists = (i : ℕ) → IsSuffix (published older i) (published lists i)
