use Rattle.std.specs.Prelude.{◌≡◌, ◌⊎◌, ◌<◌, ◌≤◌, ℕ, ◌+◌, ◌-◌, ◌^◌, min, Bool, not, ◌==◌, nat_le, if◌then◌else◌, IsTrue}
use Rattle.std.specs.Prelude.{List, [], ◌∷◌, ◌++◌, length, Option, Some, None, unwrap_or, Result, Ok, Err}
use Rattle.std.specs.FinMap.{get}
use Rattle.std.specs.List.{list_any}
use Rattle.std.specs.Str.{IsUtf8}
use Rattle.can_frame.specs.Frames.{CanFrame, word_of}
use Rattle.can_fault.specs.Sources.{VerdictMap, no_verdicts}
use Rattle.can_fault.specs.Scripts.{lines_in, line_spelling, line_after}
use Rattle.can_fault.specs.declared.script.ScriptError.{ScriptError}
use Rattle.can_fault.specs.declared.script.ScriptError.TheVariants as script
use Rattle.can_fault.specs.declared.verdict.Verdict.{Verdict}
use Rattle.can_fault.specs.declared.verdict.Verdict.TheVariants.{Good}
use Rattle.can_rules.specs.declared.rule.Rule.{Rule}
use Rattle.can_rules.specs.declared.rule.Decision.{Decision}
use Rattle.can_rules.specs.declared.rules.RuleRefusal.{RuleRefusal}
use Rattle.can_rules.specs.declared.rules.RuleRefusal.TheVariants as refusal
use Rattle.can_rules.specs.declared.rule_words.WrongWord.{WrongWord}
use Rattle.can_rules.specs.declared.rule_words.WrongWord.TheVariants as wrong
use Rattle.can_rules.specs.declared.plan.PlanError.{PlanError}
use Rattle.can_rules.specs.declared.plan.PlanError.TheVariants as plan
use Rattle.can_rules.specs.Rules.{Head, won_by, chosen, deciding, decision_by, without_rule, after_chosen, usable}
use Rattle.can_rules.specs.RuleWords.{is_rule, rule_spelling}

-- The plan of a bus: script lines and rules (own choice).

-- A plan: the verdicts of script lines by attempt number, the rules that are not used up, and the number of rules
-- accepted so far.
pub record PlanSeen : Type 0 where
  pub lines : VerdictMap
  pub rules : List Rule
  pub taken : ℕ

-- The plan that has no script lines and no rules.
abbrev pub no_plan : PlanSeen
no_plan = record { lines = no_verdicts; rules = []; taken = 0 }

-- The number after n, but at most 2^64 - 1.
abbrev pub counted_up : ℕ → ℕ
counted_up n = min (n + 1) (2 ^ 64 - 1)

-- The rule with its number replaced by this number.
abbrev pub numbered : ℕ → Rule → Rule
numbered number rule = record rule { number = number }

-- The plan after one more rule is appended. The rule's number is the count of all rules accepted so far.
abbrev pub with_rule : Rule → PlanSeen → PlanSeen
with_rule rule plan = record plan {
  rules = plan.rules ++ numbered (counted_up plan.taken) rule ∷ [];
  taken = counted_up plan.taken;
}

-- The rules' numbers increase, all are greater than `low`, and none is greater than `high`.
abbrev pub NumbersGrow : ℕ → List Rule → ℕ → Type 0
NumbersGrow low [] high = low ≤ high
NumbersGrow low (rule ∷ rules) high = (low < rule.number) × NumbersGrow rule.number rules high

-- Each rule has its own number, and no number is greater than the count of accepted rules.
abbrev pub HasOwnNumbers : PlanSeen → Type 0
HasOwnNumbers plan = NumbersGrow 0 plan.rules plan.taken

-- The plan with its rules replaced by these rules.
abbrev pub with_rules : List Rule → PlanSeen → PlanSeen
with_rules rules plan = record plan { rules = rules }

-- The plan after all its rules are removed.
abbrev pub without_rules : PlanSeen → PlanSeen
without_rules plan = record plan { rules = [] }

-- The next attempt as rules see it, or `None` if the attempt is idle.
abbrev pub head_in : Option (ℕ × CanFrame) → Option Head
head_in None = None
head_in (Some p) = Some (won_by p.0 (word_of p.1))

-- The verdict of the rules for an attempt. The verdict is good if the attempt is idle or no rule gives a verdict.
abbrev pub ruled : List Rule → Option Head → Verdict
ruled rules None = Good
ruled rules (Some head) = unwrap_or (chosen rules head) Good

-- The verdict of the rules for an attempt, with the number of the rule that gives it.
abbrev pub decided : List Rule → Option Head → Decision
decided rules None = without_rule Good
decided rules (Some head) = decision_by (deciding rules head)

-- The rules after an attempt. An idle attempt asks no rule; after any other attempt, used-up rules are removed.
abbrev pub after_ruled : List Rule → Option Head → List Rule
after_ruled rules None = rules
after_ruled rules (Some head) = usable (after_chosen rules head)

-- The verdict of the attempt's script line if there is one, even a good one, otherwise the verdict of the rules.
abbrev pub planned : Option Verdict → List Rule → Option Head → Verdict
planned (Some verdict) rules head = verdict
planned None rules head = ruled rules head

-- The verdict of the script line or of the rules, with the number of the rule that gives it.
abbrev pub decided_with : Option Verdict → List Rule → Option Head → Decision
decided_with (Some verdict) rules head = without_rule verdict
decided_with None rules head = decided rules head

-- The rules after an attempt. No rule is asked if the script has a line for the attempt.
abbrev pub after_planned : Option Verdict → List Rule → Option Head → List Rule
after_planned (Some verdict) rules head = rules
after_planned None rules head = after_ruled rules head

-- The verdict of an attempt: the source's verdict if that is a fault, otherwise the plan's verdict.
abbrev pub given : Verdict → PlanSeen → ℕ → Option (ℕ × CanFrame) → Verdict
given Good plan attempt head = planned (get plan.lines attempt) plan.rules (head_in head)
given fault plan attempt head = fault

-- The verdict of the source or of the plan, with the number of the rule that gives it.
abbrev pub decided_for : Verdict → PlanSeen → ℕ → Option (ℕ × CanFrame) → Decision
decided_for Good plan attempt head = decided_with (get plan.lines attempt) plan.rules (head_in head)
decided_for fault plan attempt head = without_rule fault

-- The plan after an attempt. If the source gives a fault, no rule is asked.
abbrev pub plan_after : Verdict → PlanSeen → ℕ → Option (ℕ × CanFrame) → PlanSeen
plan_after Good plan attempt head = record plan {
  rules = after_planned (get plan.lines attempt) plan.rules (head_in head);
}
plan_after fault plan attempt head = plan

-- The plan's decision about the attempt with this number.
abbrev pub decided_at : PlanSeen → ℕ → Head → Decision
decided_at plan attempt head = decided_with (get plan.lines attempt) plan.rules (Some head)

-- The plan after it decided the attempt with this number.
abbrev pub plan_asked : PlanSeen → ℕ → Head → PlanSeen
plan_asked plan attempt head = with_rules (after_planned (get plan.lines attempt) plan.rules (Some head)) plan

-- The attempt has this verdict whatever frame it tries, and no rule is asked.
abbrev pub IsSettled : Verdict → PlanSeen → ℕ → Verdict → Type 0
IsSettled source plan attempt verdict =
    (head : Option (ℕ × CanFrame))
    → (given source plan attempt head ≡ verdict) × (plan_after source plan attempt head ≡ plan)
    × (decided_for source plan attempt head ≡ without_rule verdict)

-- The plan has rules, and the verdict of the attempt depends only on them and on the attempt's head.
abbrev pub IsUpToRules : Verdict → PlanSeen → ℕ → Type 0
IsUpToRules source plan attempt =
    (0 < length plan.rules)
    × ((head : Option (ℕ × CanFrame)) → (given source plan attempt head ≡ ruled plan.rules (head_in head))
    × (plan_after source plan attempt head ≡ with_rules (after_ruled plan.rules (head_in head)) plan)
    × (decided_for source plan attempt head ≡ decided plan.rules (head_in head)))

-- A plan accepts a rule and appends it, if the plan has fewer than 64 rules and memory is not refused.
abbrev pub GivesRule : Rule → PlanSeen → Result (Unit {0}) RuleRefusal → PlanSeen → Type 0
GivesRule rule old (Ok done) new = (length old.rules < 64) × (new ≡ with_rule rule old)
GivesRule rule old (Err refusal.TooManyRules) new = (64 ≤ length old.rules) × (new ≡ old)
GivesRule rule old (Err refusal.NoMemory) new = (length old.rules < 64) × (new ≡ old)
GivesRule rule old (Err why) new = ⊥

-- The refusal for a wrong word of a rule.
abbrev pub refusal_of : WrongWord → RuleRefusal
refusal_of wrong.UnknownInterface = refusal.UnknownInterface
refusal_of _ = refusal.BadRule

-- The bytes spell this rule, or the reason why they spell no rule is `why`. The text of a rule is UTF-8.
abbrev pub SpellsRule : List (List ℕ) → List ℕ → Result Rule RuleRefusal → Type 0
SpellsRule names bytes (Ok rule) = rule_spelling names bytes ≡ Ok rule
SpellsRule names bytes (Err why) =
    ((why ≡ refusal.BadRule) × ¬ (IsUtf8 bytes))
    ⊎ ((which : WrongWord) × (rule_spelling names bytes ≡ Err which) × (why ≡ refusal_of which))

-- Bytes are given to a plan as one more rule. They are refused if they do not spell a rule, and otherwise if the plan
-- has 64 rules already or memory is refused.
abbrev pub Injected : List (List ℕ) → List ℕ → PlanSeen → Result (Unit {0}) RuleRefusal → PlanSeen → Type 0
Injected names bytes old (Ok done) new =
    (rule : Rule) × SpellsRule names bytes (Ok rule) × (length old.rules < 64) × (new ≡ with_rule rule old)
Injected names bytes old (Err refusal.TooManyRules) new =
    (rule : Rule) × SpellsRule names bytes (Ok rule) × (64 ≤ length old.rules) × (new ≡ old)
Injected names bytes old (Err refusal.NoMemory) new =
    (rule : Rule) × SpellsRule names bytes (Ok rule) × (length old.rules < 64) × (new ≡ old)
Injected names bytes old (Err why) new = SpellsRule names bytes (Err why) × (new ≡ old)

-- The texts of plans: script lines and rule lines.

-- The error for a wrong word in line n.
abbrev pub at_word : ℕ → WrongWord → PlanError
at_word n wrong.UnknownInterface = plan.Script (script.UnknownInterface n)
at_word n _ = plan.Script (script.BadLine n)

-- The plan with its script lines replaced by these lines, or the script's error.
abbrev pub with_lines : PlanSeen → Result VerdictMap ScriptError → Result PlanSeen PlanError
with_lines known (Ok lines) = Ok (record known { lines = lines })
with_lines known (Err why) = Err (plan.Script why)

-- The plan after one more rule is appended, or the error of line n.
abbrev pub with_rule_line : PlanSeen → ℕ → Result Rule WrongWord → Result PlanSeen PlanError
with_rule_line known n (Ok rule) =
    if nat_le 64 (length known.rules) then Err (plan.TooManyRules n) else Ok (with_rule rule known)
with_rule_line known n (Err which) = Err (at_word n which)

-- The plan after line n. The plan before the line is `known`.
abbrev pub line_taken : List (List ℕ) → PlanSeen → ℕ → List ℕ → Result PlanSeen PlanError
line_taken names known n line =
    if is_rule line then with_rule_line known n (rule_spelling names line)
    else with_lines known (line_after known.lines n (line_spelling names line))

-- The result of `f` if the first value is good, otherwise the error of the first value.
abbrev pub gone_on : {A B : Type 0} → Result A PlanError → (A → Result B PlanError) → Result B PlanError
gone_on (Ok known) f = f known
gone_on (Err why) f = Err why

-- The plan after these lines. The first line has number n.
abbrev pub lines_taken : List (List ℕ) → PlanSeen → ℕ → List (List ℕ) → Result PlanSeen PlanError
lines_taken names known n [] = Ok known
lines_taken names known n (line ∷ more) =
    gone_on (line_taken names known n line) (λ next. lines_taken names next (n + 1) more)

-- The plan that a text spells, or the error of the first wrong line.
abbrev pub plan_spelling : List (List ℕ) → List ℕ → Result PlanSeen PlanError
plan_spelling names text = lines_taken names no_plan 1 (lines_in text)

-- The line is not empty.
abbrev pub has_bytes : List ℕ → Bool
has_bytes line = not (length line == 0)

-- Reading a text returns the plan that the text spells or its error. It may return NoMemory instead if some line is not
-- empty.
abbrev pub ReadsPlan : List (List ℕ) → List ℕ → Result PlanSeen PlanError → Type 0
ReadsPlan names text (Err (plan.Script script.NoMemory)) = IsTrue (list_any has_bytes (lines_in text))
ReadsPlan names text answer = plan_spelling names text ≡ answer

-- Taking line n results in the plan after the line or in the line's error. It may fail with NoMemory instead if the
-- line is not empty.
abbrev pub TakesPlanLine : List (List ℕ) → List ℕ → ℕ → PlanSeen → Result (Unit {0}) PlanError → PlanSeen → Type 0
TakesPlanLine names line n known (Ok done) new = line_taken names known n line ≡ Ok new
TakesPlanLine names line n known (Err (plan.Script script.NoMemory)) new = IsTrue (has_bytes line)
TakesPlanLine names line n known (Err why) new = line_taken names known n line ≡ Err why
