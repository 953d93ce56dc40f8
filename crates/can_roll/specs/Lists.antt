-- Lists of calls, one list for each pass with the newest call first, and lists of passes.
use Rattle.std.specs.Prelude.{◌≢◌, ℕ, zero, suc, ◌<◌, List, [], ◌∷◌, ◌++◌}
use Rattle.can_event.specs.declared.entry.Entry.{Entry}

-- The calls of pass p, or no calls if there is no pass p.
abbrev pub row : List (List Entry) → ℕ → List Entry
row [] p = []
row (calls ∷ others) zero = calls
row (calls ∷ others) (suc p) = row others p

-- The lists after these calls, newest first, are added in front of the calls of pass p.
abbrev pub added_all : List (List Entry) → ℕ → List Entry → List (List Entry)
added_all [] p calls = []
added_all (own ∷ others) zero calls = (calls ++ own) ∷ others
added_all (own ∷ others) (suc p) calls = own ∷ added_all others p calls

-- The lists after one call is added in front of the calls of pass p.
abbrev pub call_added : List (List Entry) → ℕ → Entry → List (List Entry)
call_added lists p call = added_all lists p (call ∷ [])

-- The last pass of a list, or 0 if the list is empty.
abbrev pub last_pass : List ℕ → ℕ
last_pass [] = 0
last_pass (p ∷ []) = p
last_pass (p ∷ q ∷ qs) = last_pass (q ∷ qs)

-- The list without its last pass.
abbrev pub without_last : List ℕ → List ℕ
without_last [] = []
without_last (p ∷ []) = []
without_last (p ∷ q ∷ qs) = p ∷ without_last (q ∷ qs)

-- Pass p is not in the list.
abbrev pub NotIn : ℕ → List ℕ → Type 0
NotIn p [] = Unit {0}
NotIn p (q ∷ qs) = (p ≢ q) × NotIn p qs

-- No pass is in the list twice.
abbrev pub Distinct : List ℕ → Type 0
Distinct [] = Unit {0}
Distinct (p ∷ ps) = NotIn p ps × Distinct ps

-- Each pass in the list has a number below n.
abbrev pub AllBelow : ℕ → List ℕ → Type 0
AllBelow n [] = Unit {0}
AllBelow n (p ∷ ps) = (p < n) × AllBelow n ps
