use Rattle.std.specs.Prelude.{◌≡◌, ℕ, ◌==◌, unwrap_or, if◌then◌else◌, refl}
use Rattle.std.specs.Ordering.{nat_cmp}
use Rattle.std.specs.FinMap.{FinMap, get, empty, code}
use Rattle.std.specs.Coded.{Coded, code_by, coded×, coded_ℕ}
use Rattle.can_frame.specs.declared.iface.IfaceSet.{IfaceSet}
use Rattle.can_fault.specs.declared.verdict.GlobalKind.TheVariants as global
use Rattle.can_fault.specs.declared.verdict.LocalKind.TheVariants as local
use Rattle.can_fault.specs.declared.verdict.Verdict.{Verdict}
use Rattle.can_fault.specs.declared.verdict.Verdict.TheVariants.{Good, Global, Local, LastBit}

-- Sources of verdicts, as finite maps (own choice).

-- the verdicts on attempts, by attempt number
abbrev pub VerdictMap : Type 0
VerdictMap = FinMap nat_cmp Verdict

-- the map without verdicts
abbrev pub no_verdicts : VerdictMap
no_verdicts = empty

-- the verdict on an attempt: the map's entry, or Good if there is none
abbrev pub verdict_in : VerdictMap → ℕ → Verdict
verdict_in verdicts attempt = unwrap_or (get verdicts attempt) Good

-- How the logic stores a map of verdicts, so that a model may have one as its value. No clause reads
-- these words.

-- the number of a kind of verdict
abbrev pub kind_number : Verdict → ℕ
kind_number Good = 0
kind_number (Global global.Bit) = 1
kind_number (Global global.Form) = 2
kind_number (Local set local.Stuff) = 3
kind_number (Local set local.Crc) = 4
kind_number (Local set local.Form) = 5
kind_number LastBit = 6

-- the set that a verdict names, as a number
abbrev pub set_in : Verdict → ℕ
set_in (Local set kind) = set.0
set_in _ = 0

-- the verdict with this kind's number and this set
abbrev pub verdict_from : ℕ × ℕ → Verdict
verdict_from p =
    let set : IfaceSet = record { 0 = p.1 } in
    if p.0 == 0 then Good
    else if p.0 == 1 then Global global.Bit
    else if p.0 == 2 then Global global.Form
    else if p.0 == 3 then Local set local.Stuff
    else if p.0 == 4 then Local set local.Crc
    else if p.0 == 5 then Local set local.Form
    else LastBit

pub verdict_back : (v : Verdict) → verdict_from (kind_number v, set_in v) ≡ v
verdict_back Good = refl
verdict_back (Global global.Bit) = refl
verdict_back (Global global.Form) = refl
verdict_back (Local set local.Stuff) = refl
verdict_back (Local set local.Crc) = refl
verdict_back (Local set local.Form) = refl
verdict_back LastBit = refl

-- verdicts as the logic stores them
abbrev pub verdict_code : Coded Verdict
verdict_code = code_by (ℕ × ℕ) (coded× coded_ℕ coded_ℕ) (λ v. (kind_number v, set_in v)) verdict_from verdict_back

-- the same of maps
abbrev pub verdict_map_code : Coded VerdictMap
verdict_map_code = code coded_ℕ verdict_code
