use Rattle.std.proofs.Common.{◌≡◌, ◌<◌, ◌+◌, ℕ, Bool, true, false, List, [], ◌∷◌, map, length, drop, get_or, Some, None, Result, Ok, Err, is_some, nat_eq, refl, sym, ap, ◌∙◌, if◌then◌else◌}
use Rattle.std.specs.Prelude.{IsTrue}
use Rattle.std.specs.Ordering.{nat_cmp}
use Rattle.std.specs.HashMap.{HashMap}
use Rattle.std.specs.HashMap as table
use Rattle.std.specs.FinMap.{from_entries, insert, contains_key}
use Rattle.std.proofs.lemmas.List.{at_drop_more}
use Rattle.can_fault.specs.Sources.{VerdictMap}
use Rattle.can_fault.specs.Scripts.{Saying, sayings, line_spelling, line_after, spelled_after, script_spelling, takes_memory, at_line, Reads, TakesLine}
use Rattle.can_fault.specs.declared.script.ScriptError.{ScriptError}
use Rattle.can_fault.specs.declared.script_lines.LineFault.{LineFault}
use Rattle.can_fault.specs.declared.script_lines.LineFault.TheVariants as line
use Rattle.can_fault.specs.declared.script.ScriptError.TheVariants.{BadLine, UnknownInterface, RepeatedAttempt, NoMemory}
use Rattle.can_fault.specs.declared.verdict.Verdict.{Verdict}
use Rattle.can_fault.proofs.VerdictMaps.{contains_key-from_table, from_table-insert}

-- The lines of a script, one after another.

-- the lines from place n on begin with what line n says
pub said-turn : {Y : Type 0} (f : List Saying → Y) (names lines : List (List ℕ)) (n : ℕ) (line : List ℕ) (saying : Saying) → (n < length lines) × (line ≡ get_or lines n line)
    → saying ≡ line_spelling names line → f (map (line_spelling names) (drop n lines)) ≡ f (saying ∷ map (line_spelling names) (drop (n + 1) lines))
said-turn f names lines n line saying h said =
    let rest : List Saying = map (line_spelling names) (drop (n + 1) lines) in
    at_drop_more (λ ls. f (map (line_spelling names) ls)) lines n line h.0
    ∙ ap (λ (l : List ℕ). f (line_spelling names l ∷ rest)) (sym h.1)
    ∙ ap (λ (s : Saying). f (s ∷ rest)) (sym said)

-- the result of one line, followed by the other lines
abbrev pub spelled_then : Result VerdictMap ScriptError → ℕ → List Saying → Result VerdictMap ScriptError
spelled_then (Ok known) n more = spelled_after known n more
spelled_then (Err why) n more = Err why

either_way : (b : Bool) (why : ScriptError) (known : VerdictMap) (n : ℕ) (more : List Saying) → (if b then Err why else spelled_after known n more) ≡ spelled_then (if b then Err why else Ok known) n more
either_way true why known n more = refl
either_way false why known n more = refl

pub spelled_after-turn : (known : VerdictMap) (n : ℕ) (saying : Saying) (more : List Saying) → spelled_after known n (saying ∷ more) ≡ spelled_then (line_after known n saying) (n + 1) more
spelled_after-turn known n (Err fault) more = refl
spelled_after-turn known n (Ok None) more = refl
spelled_after-turn known n (Ok (Some entry)) more = either_way (contains_key known entry.0) (RepeatedAttempt n) (insert known entry.0 entry.1) (n + 1) more

-- a first line with a verdict takes memory
pub takes_memory-one : (saying : Saying) (more : List Saying) → IsTrue (takes_memory (saying ∷ [])) → IsTrue (takes_memory (saying ∷ more))
takes_memory-one (Err fault) more h = h
takes_memory-one (Ok None) more h = absurd (cc h)
takes_memory-one (Ok (Some entry)) more h = h

-- a later line with a verdict takes memory, after a line that was read without a fault
pub takes_memory-more : (known new : VerdictMap) (n : ℕ) (saying : Saying) (more : List Saying) → line_after known n saying ≡ Ok new → IsTrue (takes_memory more) → IsTrue (takes_memory (saying ∷ more))
takes_memory-more known new n (Err fault) more taken h = absurd (cc taken)
takes_memory-more known new n (Ok None) more taken h = h
takes_memory-more known new n (Ok (Some entry)) more taken h = refl

-- a line with a fault ends the reading
pub Reads-turn : (names : List (List ℕ)) (text : List ℕ) (known new : VerdictMap) (n : ℕ) (saying : Saying) (more : List Saying) (why : ScriptError)
    → script_spelling names text ≡ spelled_after known n (saying ∷ more) → (IsTrue (takes_memory (saying ∷ more)) → IsTrue (takes_memory (sayings names text)))
    → TakesLine saying n known (Err why) new → Reads names text (Err why)
Reads-turn names text known new n saying more NoMemory spelled memory h = memory (takes_memory-one saying more h)
Reads-turn names text known new n saying more (BadLine m) spelled memory h = spelled ∙ spelled_after-turn known n saying more ∙ ap (λ r. spelled_then r (n + 1) more) h
Reads-turn names text known new n saying more (UnknownInterface m) spelled memory h = spelled ∙ spelled_after-turn known n saying more ∙ ap (λ r. spelled_then r (n + 1) more) h
Reads-turn names text known new n saying more (RepeatedAttempt m) spelled memory h = spelled ∙ spelled_after-turn known n saying more ∙ ap (λ r. spelled_then r (n + 1) more) h

-- a verdict on an attempt that has none yet
pub line_after-kept : {S : Type 0} (old new : HashMap ℕ Verdict S) (n attempt : ℕ) (verdict : Verdict) → None ≡ table.get nat_eq old attempt
    → table.Updates nat_eq old new attempt (Some verdict)
    → line_after (from_entries {R = nat_cmp} old.entries) n (Ok (Some (attempt, verdict))) ≡ Ok (from_entries {R = nat_cmp} new.entries)
line_after-kept old new n attempt verdict absent updates =
    ap (λ b. if b then Err (RepeatedAttempt n) else Ok (insert (from_entries old.entries) attempt verdict)) (contains_key-from_table old attempt ∙ ap is_some (sym absent))
    ∙ ap Ok (sym (from_table-insert old new attempt verdict updates))

-- a verdict on an attempt that already has one
pub line_after-repeated : {S : Type 0} (old : HashMap ℕ Verdict S) (n attempt : ℕ) (had verdict : Verdict) → Some had ≡ table.get nat_eq old attempt → line_after (from_entries {R = nat_cmp} old.entries) n (Ok (Some (attempt, verdict))) ≡ Err (RepeatedAttempt n)
line_after-repeated old n attempt had verdict there =
    ap (λ b. if b then Err (RepeatedAttempt n) else Ok (insert (from_entries old.entries) attempt verdict)) (contains_key-from_table old attempt ∙ ap is_some (sym there))

-- the fault of a line is not a lack of memory
pub TakesLine-at_line : (known new : VerdictMap) (n : ℕ) (fault : LineFault) → TakesLine (Err fault) n known (Err (at_line n fault)) new
TakesLine-at_line known new n line.BadLine = refl
TakesLine-at_line known new n line.UnknownInterface = refl
