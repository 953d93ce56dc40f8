use Rattle.std.specs.Prelude.{◌≡◌, ℕ, ◌+◌, Bool, true, false, IsTrue, ◌&&◌, ◌==◌, nat_le}
use Rattle.std.specs.Prelude.{nat_eq, if◌then◌else◌, List, [], ◌∷◌, map, length, Option, Some}
use Rattle.std.specs.Prelude.{None, is_some, Result, Ok, Err, IsOk, codes, slice_get, take}
use Rattle.std.specs.List.{list_all, list_any, slice_split, before_first, after_first}
use Rattle.std.specs.Option.{option_eq, ok_or}
use Rattle.std.specs.Char.{is_ascii_digit}
use Rattle.std.specs.Str.{bytes_eq}
use Rattle.std.specs.Str.Parse.{digits_value}
use Rattle.std.specs.FinMap.{contains_key, insert}
use Rattle.can_frame.specs.Names.{names_in, is_name, place_of}
use Rattle.can_frame.specs.Sets.{set_where}
use Rattle.can_frame.specs.declared.iface.IfaceSet.{IfaceSet}
use Rattle.can_fault.specs.Sources.{VerdictMap, no_verdicts}
use Rattle.can_fault.specs.declared.script_lines.LineFault.{LineFault}
use Rattle.can_fault.specs.declared.script_lines.LineFault.TheVariants as line
use Rattle.can_fault.specs.declared.script.ScriptError.{ScriptError}
use Rattle.can_fault.specs.declared.script.ScriptError.TheVariants as script
use Rattle.can_fault.specs.declared.verdict.GlobalKind.TheVariants as global
use Rattle.can_fault.specs.declared.verdict.LocalKind.{LocalKind}
use Rattle.can_fault.specs.declared.verdict.LocalKind.TheVariants as local
use Rattle.can_fault.specs.declared.verdict.Verdict.{Verdict}
use Rattle.can_fault.specs.declared.verdict.Verdict.TheVariants.{Good, Global, Local, LastBit}

-- Fault scripts: the verdicts on attempts, written as lines of text (own choice).

infixl 10 ◌>>=◌
abbrev pub ◌>>=◌ : {A B : Type 0} → Result A LineFault → (A → Result B LineFault) → Result B LineFault
(Ok x) >>= f = f x
(Err e) >>= f = Err e

-- the text before its first space, or all of it
abbrev pub word : List ℕ → List ℕ
word text = before_first (λ b. b == 32) text

-- the text after its first space, or nothing
abbrev pub after : List ℕ → List ℕ
after text = after_first (λ b. b == 32) text

-- 1 to 8 decimal digits
abbrev pub is_number : List ℕ → Bool
is_number text = nat_le 1 (length text) && nat_le (length text) 8 && list_all is_ascii_digit text

-- the number of an attempt
abbrev pub number_spelling : List ℕ → Option ℕ
number_spelling text = if is_number text then Some (digits_value 10 text) else None

-- the interfaces whose names are among the pieces
unfoldable pub set_named : List (List ℕ) → List (List ℕ) → IfaceSet
set_named names pieces =
    set_where (λ i. list_any (λ piece. option_eq nat_eq (place_of names piece) (Some i)) pieces) (length names)

-- each piece is the name of an interface
abbrev pub are_known : List (List ℕ) → List (List ℕ) → Bool
are_known names pieces = list_all (λ piece. is_some (place_of names piece)) pieces

-- a set of interfaces: their names joined by commas. If a piece is not a valid name, the line is bad before any name is
-- looked up
abbrev pub set_spelling : List (List ℕ) → List ℕ → Result IfaceSet LineFault
set_spelling names text =
    if list_all is_name (names_in text)
    then (if are_known names (names_in text) then Ok (set_named names (names_in text)) else Err line.UnknownInterface)
    else Err line.BadLine

-- a fault that only some interfaces see
abbrev pub kind_spelling : List ℕ → Option LocalKind
kind_spelling text =
    if bytes_eq text (codes "stuff") then Some local.Stuff
    else if bytes_eq text (codes "crc") then Some local.Crc
    else if bytes_eq text (codes "form") then Some local.Form
    else None

-- after `local`: the fault, a space, and the interfaces that see it
unfoldable pub local_spelling : List (List ℕ) → List ℕ → Result Verdict LineFault
local_spelling names text = do
  kind ← ok_or (kind_spelling (word text)) line.BadLine
  set ← set_spelling names (after text)
  Ok (Local set kind)

-- a verdict
unfoldable pub verdict_spelling : List (List ℕ) → List ℕ → Result Verdict LineFault
verdict_spelling names text =
    if bytes_eq text (codes "good") then Ok Good
    else if bytes_eq text (codes "lastbit") then Ok LastBit
    else if bytes_eq text (codes "global bit") then Ok (Global global.Bit)
    else if bytes_eq text (codes "global form") then Ok (Global global.Form)
    else if bytes_eq (word text) (codes "local") then local_spelling names (after text)
    else Err line.BadLine

-- what a line says: nothing, or the number of an attempt and the verdict on it
abbrev pub Saying : Type 0
Saying = Result (Option (ℕ × Verdict)) LineFault

-- a line with a number, a space, and a verdict
unfoldable pub entry_spelling : List (List ℕ) → List ℕ → Saying
entry_spelling names text = do
  number ← ok_or (number_spelling (word text)) line.BadLine
  verdict ← verdict_spelling names (after text)
  Ok (Some (number, verdict))

-- a line, which says nothing if it is empty or begins with `#`
abbrev pub line_spelling : List (List ℕ) → List ℕ → Saying
line_spelling names [] = Ok None
line_spelling names (b ∷ bs) = if b == 35 then Ok None else entry_spelling names (b ∷ bs)

-- the lines of a text: the pieces between its line feeds. The piece after a final line feed is empty and says nothing
abbrev pub lines_in : List ℕ → List (List ℕ)
lines_in text = slice_split (λ b. b == 10) text

-- what the lines of a text say
abbrev pub sayings : List (List ℕ) → List ℕ → List Saying
sayings names text = map (line_spelling names) (lines_in text)

-- the fault of a line, together with the line's number
abbrev pub at_line : ℕ → LineFault → ScriptError
at_line n line.BadLine = script.BadLine n
at_line n line.UnknownInterface = script.UnknownInterface n

-- the verdicts after a line with number `n`, if the lines before it gave `known`
abbrev pub line_after : VerdictMap → ℕ → Saying → Result VerdictMap ScriptError
line_after known n (Err fault) = Err (at_line n fault)
line_after known n (Ok None) = Ok known
line_after known n (Ok (Some entry)) =
    if contains_key known entry.0 then Err (script.RepeatedAttempt n) else Ok (insert known entry.0 entry.1)

-- the verdicts after these lines, the first of which has number `n`, if the lines before them gave `known`
abbrev pub spelled_after : VerdictMap → ℕ → List Saying → Result VerdictMap ScriptError
spelled_after known n [] = Ok known
spelled_after known n (Err fault ∷ more) = Err (at_line n fault)
spelled_after known n (Ok None ∷ more) = spelled_after known (n + 1) more
spelled_after known n (Ok (Some entry) ∷ more) =
    if contains_key known entry.0 then Err (script.RepeatedAttempt n)
    else spelled_after (insert known entry.0 entry.1) (n + 1) more

-- the verdicts that a text spells, or its first fault
abbrev pub script_spelling : List (List ℕ) → List ℕ → Result VerdictMap ScriptError
script_spelling names text = spelled_after no_verdicts 1 (sayings names text)

-- a line gives a verdict before any line has a fault; storing the verdict takes memory
abbrev pub takes_memory : List Saying → Bool
takes_memory [] = false
takes_memory (Err fault ∷ more) = false
takes_memory (Ok None ∷ more) = takes_memory more
takes_memory (Ok (Some entry) ∷ more) = true

-- adding a line with number `n` gives the verdicts after it, or its fault, or NoMemory if the line takes memory
abbrev pub TakesLine : Saying → ℕ → VerdictMap → Result (Unit {0}) ScriptError → VerdictMap → Type 0
TakesLine saying n known (Ok done) new = line_after known n saying ≡ Ok new
TakesLine saying n known (Err script.NoMemory) new = IsTrue (takes_memory (saying ∷ []))
TakesLine saying n known (Err why) new = line_after known n saying ≡ Err why

-- reading a text returns the verdicts that the text spells, or its first fault, or NoMemory if the text takes memory
abbrev pub Reads : List (List ℕ) → List ℕ → Result VerdictMap ScriptError → Type 0
Reads names text (Err script.NoMemory) = IsTrue (takes_memory (sayings names text))
Reads names text answer = script_spelling names text ≡ answer

-- at least one line gives this verdict on the attempt
abbrev pub Gives : List Saying → ℕ → Verdict → Type 0
Gives lines attempt verdict = (place : ℕ) × (slice_get lines place ≡ Some (Ok (Some (attempt, verdict))))

-- the line at this place, counted from 0, has this fault, which contains the line's number, counted from 1
abbrev pub HasFault : List Saying → ℕ → ScriptError → Type 0
HasFault lines place (script.BadLine n) = (n ≡ place + 1) × (slice_get lines place ≡ Some (Err line.BadLine))
HasFault lines place (script.UnknownInterface n) =
    (n ≡ place + 1) × (slice_get lines place ≡ Some (Err line.UnknownInterface))
HasFault lines place (script.RepeatedAttempt n) =
    (n ≡ place + 1)
    × ((attempt : ℕ) × (now : Verdict) × (before : Verdict)
    × (slice_get lines place ≡ Some (Ok (Some (attempt, now))))
    × Gives (take place lines) attempt before)
HasFault lines place script.NoMemory = ⊥

-- this is the fault of the first faulty line: the lines before it are a valid script
abbrev pub IsFirstFault : List Saying → ScriptError → Type 0
IsFirstFault lines fault =
    (place : ℕ) × IsOk (spelled_after no_verdicts 1 (take place lines)) × HasFault lines place fault
