use Rattle.std.proofs.Common.{◌≡◌, ◌<◌, ◌+◌, ℕ, Bool, true, false, List, ◌∷◌, length, drop, get_or, Ok, Err, Result, ap, refl, sym, ◌∙◌}
use Rattle.std.specs.Prelude.{IsTrue, ◌||◌}
use Rattle.std.specs.List.{list_any}
use Rattle.std.proofs.lemmas.List.{at_drop_more}
use Rattle.can_fault.specs.Scripts.{lines_in}
use Rattle.can_fault.specs.declared.script.ScriptError.TheVariants as script
use Rattle.can_rules.specs.declared.rule.Rule.{Rule}
use Rattle.can_rules.specs.declared.rules.RuleRefusal.{RuleRefusal}
use Rattle.can_rules.specs.declared.rules.RuleRefusal.TheVariants as refusal
use Rattle.can_rules.specs.declared.plan.PlanError.{PlanError}
use Rattle.can_rules.specs.declared.plan.PlanError.TheVariants as plan
use Rattle.can_rules.specs.Plans.{PlanSeen, SpellsRule, GivesRule, Injected, has_bytes, gone_on, lines_taken, plan_spelling, ReadsPlan, TakesPlanLine}
use Rattle.can_rules.specs.RunFaults.{RunSeen, run_lines, run_spelling, ReadsRunFaults, TakesRunLine}

-- Facts about plans after one more rule or one more line.

-- Giving a plan the rule that some bytes spell injects those bytes.
pub injected : (names : List (List ℕ)) (bytes : List ℕ) (old new : PlanSeen) (rule : Rule) (result : Result (Unit {0}) RuleRefusal) → SpellsRule names bytes (Ok rule) → GivesRule rule old result new
    → Injected names bytes old result new
injected names bytes old new rule (Ok done) spelled h = (rule, spelled, h.0, h.1)
injected names bytes old new rule (Err refusal.TooManyRules) spelled h = (rule, spelled, h.0, h.1)
injected names bytes old new rule (Err refusal.NoMemory) spelled h = (rule, spelled, h.0, h.1)
injected names bytes old new rule (Err refusal.BadRule) spelled h = absurd h
injected names bytes old new rule (Err refusal.UnknownInterface) spelled h = absurd h

-- The lines from index n onwards are line n and the lines after it.
pub line-turn : {Y : Type 0} (f : List (List ℕ) → Y) (lines : List (List ℕ)) (n : ℕ) (line : List ℕ) → (n < length lines) × (line ≡ get_or lines n line) → f (drop n lines) ≡ f (line ∷ drop (n + 1) lines)
line-turn f lines n line h = at_drop_more f lines n line h.0 ∙ ap (λ (l : List ℕ). f (l ∷ drop (n + 1) lines)) (sym h.1)

either_true : (a b : Bool) → IsTrue a → IsTrue (a || b)
either_true true b h = h
either_true false b h = absurd (cc h)

or_true : (a b : Bool) → IsTrue b → IsTrue (a || b)
or_true true b h = refl
or_true false b h = h

-- If the first line is not empty, some line is not empty.
pub any-first : (line : List ℕ) (more : List (List ℕ)) → IsTrue (has_bytes line) → IsTrue (list_any has_bytes (line ∷ more))
any-first line more h = either_true (has_bytes line) (list_any has_bytes more) h

pub any-later : (line : List ℕ) (more : List (List ℕ)) → IsTrue (list_any has_bytes more) → IsTrue (list_any has_bytes (line ∷ more))
any-later line more h = or_true (has_bytes line) (list_any has_bytes more) h

-- An error ends the reading of lines.
pub ends : {A B : Type 0} (read : Result B PlanError) (step : Result A PlanError) (on : A → Result B PlanError) (why : PlanError) → read ≡ gone_on step on → step ≡ Err why → read ≡ Err why
ends read step on why spelled fault = spelled ∙ ap (λ r. gone_on r on) fault

-- A refused line ends the reading of a plan with the error of that line.
pub ReadsPlan-turn : (names : List (List ℕ)) (text : List ℕ) (known new : PlanSeen) (n : ℕ) (line : List ℕ) (more : List (List ℕ)) (why : PlanError)
    → plan_spelling names text ≡ lines_taken names known n (line ∷ more) → (IsTrue (has_bytes line) → IsTrue (list_any has_bytes (lines_in text)))
    → TakesPlanLine names line n known (Err why) new → ReadsPlan names text (Err why)
ReadsPlan-turn names text known new n line more (plan.Script script.NoMemory) spelled memory h = memory h
ReadsPlan-turn names text known new n line more (plan.Script (script.BadLine m)) spelled memory h = ends _ _ (λ next. lines_taken names next (n + 1) more) _ spelled h
ReadsPlan-turn names text known new n line more (plan.Script (script.UnknownInterface m)) spelled memory h = ends _ _ (λ next. lines_taken names next (n + 1) more) _ spelled h
ReadsPlan-turn names text known new n line more (plan.Script (script.RepeatedAttempt m)) spelled memory h = ends _ _ (λ next. lines_taken names next (n + 1) more) _ spelled h
ReadsPlan-turn names text known new n line more (plan.TooManyRules m) spelled memory h = ends _ _ (λ next. lines_taken names next (n + 1) more) _ spelled h

-- A refused line ends the reading of a run with the error of that line.
pub ReadsRunFaults-turn : (names : List (List ℕ)) (text : List ℕ) (known new : RunSeen) (n : ℕ) (line : List ℕ) (more : List (List ℕ)) (why : PlanError)
    → run_spelling names text ≡ run_lines names known n (line ∷ more) → (IsTrue (has_bytes line) → IsTrue (list_any has_bytes (lines_in text)))
    → TakesRunLine names line n known (Err why) new → ReadsRunFaults names text (Err why)
ReadsRunFaults-turn names text known new n line more (plan.Script script.NoMemory) spelled memory h = memory h
ReadsRunFaults-turn names text known new n line more (plan.Script (script.BadLine m)) spelled memory h = ends _ _ (λ next. run_lines names next (n + 1) more) _ spelled h
ReadsRunFaults-turn names text known new n line more (plan.Script (script.UnknownInterface m)) spelled memory h = ends _ _ (λ next. run_lines names next (n + 1) more) _ spelled h
ReadsRunFaults-turn names text known new n line more (plan.Script (script.RepeatedAttempt m)) spelled memory h = ends _ _ (λ next. run_lines names next (n + 1) more) _ spelled h
ReadsRunFaults-turn names text known new n line more (plan.TooManyRules m) spelled memory h = ends _ _ (λ next. run_lines names next (n + 1) more) _ spelled h
