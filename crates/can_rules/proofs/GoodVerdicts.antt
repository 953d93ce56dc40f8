use Rattle.std.proofs.Common.{◌≡◌, ℕ, ◌<◌, ◌==◌, Bool, true, false, List, length, Result, Ok, Err, if◌then◌else◌, refl, sym, subst, arith, codes}
use Rattle.std.specs.List.{list_all}
use Rattle.std.specs.Option.{ok_or}
use Rattle.std.specs.Str.{bytes_eq}
use Rattle.std.proofs.lemmas.List.Splits.{length-slice_split}
use Rattle.can_frame.specs.Names.{names_in, is_name}
use Rattle.can_frame.specs.declared.iface.IfaceSet.{IfaceSet}
use Rattle.can_fault.specs.Scripts.{◌>>=◌, word, after, are_known, set_named, set_spelling, kind_spelling, local_spelling, verdict_spelling}
use Rattle.can_fault.specs.declared.script_lines.LineFault.{LineFault}
use Rattle.can_fault.specs.declared.script_lines.LineFault.TheVariants as line
use Rattle.can_fault.specs.declared.verdict.GlobalKind.TheVariants as global
use Rattle.can_fault.specs.declared.verdict.LocalKind.{LocalKind}
use Rattle.can_fault.specs.declared.verdict.Verdict.{Verdict}
use Rattle.can_fault.specs.declared.verdict.Verdict.TheVariants.{Good, Global, Local, LastBit}

-- Facts about a set and a verdict that some text spells.

-- The set is given by names of the bus.
abbrev pub IsNamed : List (List ℕ) → IfaceSet → Type 0
IsNamed names set = (pieces : List (List ℕ)) × (0 < length pieces) × (are_known names pieces ≡ true) × (set ≡ set_named names pieces)

abbrev pub IsVerdict : List (List ℕ) → Verdict → Type 0
IsVerdict names (Local set kind) = IsNamed names set
IsVerdict names Good = Unit {0}
IsVerdict names LastBit = Unit {0}
IsVerdict names (Global kind) = Unit {0}

pub set-good : (names : List (List ℕ)) (text : List ℕ) (set : IfaceSet) → set_spelling names text ≡ Ok set → IsNamed names set
set-good names text set e = by_tests (list_all is_name (names_in text)) (are_known names (names_in text)) refl e
  where
    by_tests : (a b : Bool) → are_known names (names_in text) ≡ b → (if a then (if b then Ok (set_named names (names_in text)) else Err line.UnknownInterface) else Err line.BadLine) ≡ Ok set → IsNamed names set
    by_tests true true known e = let same : set_named names (names_in text) ≡ set = cc in (names_in text, omega (arith, length-slice_split (λ (b : ℕ). b == 44) text), known, sym same)
    by_tests true false known e = absurd (cc e)
    by_tests false b known e = absurd (cc e)

local-good : (names : List (List ℕ)) (text : List ℕ) (v : Verdict) → local_spelling names text ≡ Ok v → IsVerdict names v
unfolding local_spelling
local-good names text v e = by_parts (ok_or (kind_spelling (word text)) line.BadLine) (set_spelling names (after text)) refl e
  where
    by_parts : (k : Result LocalKind LineFault) (r : Result IfaceSet LineFault) → set_spelling names (after text) ≡ r → (k >>= λ kind. r >>= λ set. Ok (Local set kind)) ≡ Ok v → IsVerdict names v
    by_parts (Err fault) r is e = absurd (cc e)
    by_parts (Ok kind) (Err fault) is e = absurd (cc e)
    by_parts (Ok kind) (Ok set) is e = let same : Local set kind ≡ v = cc in subst (IsVerdict names) same (set-good names (after text) set is)

pub verdict-good : (names : List (List ℕ)) (text : List ℕ) (v : Verdict) → verdict_spelling names text ≡ Ok v → IsVerdict names v
unfolding verdict_spelling
verdict-good names text v e =
    choice (bytes_eq text (codes "good")) (bytes_eq text (codes "lastbit")) (bytes_eq text (codes "global bit")) (bytes_eq text (codes "global form")) (bytes_eq (word text) (codes "local")) e
  where
    choice : (a b c d f : Bool) → (if a then Ok Good else if b then Ok LastBit else if c then Ok (Global global.Bit) else if d then Ok (Global global.Form) else if f then local_spelling names (after text) else Err line.BadLine) ≡ Ok v → IsVerdict names v
    choice true b c d f e = subst (IsVerdict names) (let same : Good ≡ v = cc in same) tt
    choice false true c d f e = subst (IsVerdict names) (let same : LastBit ≡ v = cc in same) tt
    choice false false true d f e = subst (IsVerdict names) (let same : Global global.Bit ≡ v = cc in same) tt
    choice false false false true f e = subst (IsVerdict names) (let same : Global global.Form ≡ v = cc in same) tt
    choice false false false false true e = local-good names (after text) v e
    choice false false false false false e = absurd (cc e)
