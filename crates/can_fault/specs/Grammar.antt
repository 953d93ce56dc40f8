use Rattle.std.specs.Prelude.{◌≡◌, ℕ, false, IsTrue, List, ◌∷◌, ◌++◌, codes}
use Rattle.std.specs.List.{list_all}
use Rattle.std.specs.Str.Parse.{digits_value}
use Rattle.can_frame.specs.Names.{names_in, is_name}
use Rattle.can_frame.specs.declared.iface.IfaceSet.{IfaceSet}
use Rattle.can_fault.specs.Scripts.{are_known, is_number, set_named}
use Rattle.can_fault.specs.declared.verdict.GlobalKind.TheVariants as global
use Rattle.can_fault.specs.declared.verdict.LocalKind.{LocalKind}
use Rattle.can_fault.specs.declared.verdict.LocalKind.TheVariants as local
use Rattle.can_fault.specs.declared.verdict.Verdict.{Verdict}
use Rattle.can_fault.specs.declared.verdict.Verdict.TheVariants.{Good, Global, Local, LastBit}

-- The grammar of the lines of a script: which texts spell a given value (own choice).

-- the word for a fault that only some interfaces see
abbrev pub kind_word : LocalKind → List ℕ
kind_word local.Stuff = codes "stuff"
kind_word local.Crc = codes "crc"
kind_word local.Form = codes "form"

-- names of the bus's interfaces, joined by commas, spell the set of these interfaces
abbrev pub SpellsSet : List (List ℕ) → List ℕ → IfaceSet → Type 0
SpellsSet names text set =
    IsTrue (list_all is_name (names_in text))
    × IsTrue (are_known names (names_in text))
    × (set ≡ set_named names (names_in text))

-- the spellings of a verdict: `good`, `lastbit`, `global bit`, `global form`, or `local`, the word for the fault and
-- the interfaces that see it, with one space between them
abbrev pub SpellsVerdict : List (List ℕ) → List ℕ → Verdict → Type 0
SpellsVerdict names text Good = text ≡ codes "good"
SpellsVerdict names text LastBit = text ≡ codes "lastbit"
SpellsVerdict names text (Global global.Bit) = text ≡ codes "global bit"
SpellsVerdict names text (Global global.Form) = text ≡ codes "global form"
SpellsVerdict names text (Local set kind) =
    (list : List ℕ) × (text ≡ codes "local " ++ (kind_word kind ++ 32 ∷ list)) × SpellsSet names list set

-- the spelling of a line that gives a verdict on an attempt: 1 to 8 decimal digits, a space, and the verdict
abbrev pub SpellsEntry : List (List ℕ) → List ℕ → ℕ → Verdict → Type 0
SpellsEntry names text attempt verdict =
    (digits : List ℕ) × (rest : List ℕ)
    × (text ≡ digits ++ 32 ∷ rest)
    × IsTrue (is_number digits)
    × (attempt ≡ digits_value 10 digits)
    × SpellsVerdict names rest verdict

-- a line with a number, a local fault and well-formed names, of which the bus lacks at least one
abbrev pub LacksInterface : List (List ℕ) → List ℕ → Type 0
LacksInterface names text =
    (digits : List ℕ) × (kind : LocalKind) × (list : List ℕ)
    × (text ≡ digits ++ 32 ∷ (codes "local " ++ (kind_word kind ++ 32 ∷ list)))
    × IsTrue (is_number digits)
    × IsTrue (list_all is_name (names_in list))
    × (are_known names (names_in list) ≡ false)
