use Rattle.std.specs.Prelude.{◌≡◌, ℕ, ◌+◌, ◌-◌, Bool, true, false, IsTrue, ◌&&◌, ◌==◌, nat_le, if◌then◌else◌, codes}
use Rattle.std.specs.Prelude.{List, [], ◌∷◌, ◌++◌, length, slice_get, Option, Some, None, Result, Ok, Err}
use Rattle.std.specs.List.{list_any}
use Rattle.std.specs.Option.{ok_or, option_map}
use Rattle.std.specs.Str.{bytes_eq}
use Rattle.can_frame.specs.Numbers.{number_in}
use Rattle.can_fault.specs.Scripts.{word, after, lines_in}
use Rattle.can_fault.specs.declared.script.ScriptError.TheVariants as script
use Rattle.can_fault.specs.declared.verdict.GlobalKind.{GlobalKind}
use Rattle.can_fault.specs.declared.verdict.GlobalKind.TheVariants as global
use Rattle.can_fault.specs.declared.verdict.LocalKind.{LocalKind}
use Rattle.can_fault.specs.declared.verdict.LocalKind.TheVariants as local
use Rattle.can_fault.specs.declared.verdict.Verdict.{Verdict}
use Rattle.can_fault.specs.declared.verdict.Verdict.TheVariants.{Good, Global, Local, LastBit}
use Rattle.can_rules.specs.declared.rule.Rule.{Rule}
use Rattle.can_rules.specs.declared.rule.Decision.{Decision}
use Rattle.can_rules.specs.declared.rule_words.WrongWord.{WrongWord}
use Rattle.can_rules.specs.declared.rule_words.WrongWord.TheVariants as wrong
use Rattle.can_rules.specs.declared.plan.PlanError.{PlanError}
use Rattle.can_rules.specs.declared.plan.PlanError.TheVariants as plan
use Rattle.can_rules.specs.declared.run_faults.Change.{Change}
use Rattle.can_rules.specs.declared.run_faults.Change.TheVariants as change
use Rattle.can_rules.specs.declared.run_faults.Later.{Later}
use Rattle.can_rules.specs.declared.run_faults.Made.{Made}
use Rattle.can_rules.specs.declared.run_faults.Made.TheVariants as made
use Rattle.can_rules.specs.Rules.{Head}
use Rattle.can_rules.specs.RuleWords.{◌>>=◌, second, beyond, rule_spelling}
use Rattle.can_rules.specs.Plans.{PlanSeen, no_plan, numbered, counted_up, with_rule, without_rules, decided_at}
use Rattle.can_rules.specs.Plans.{plan_asked}
use Rattle.can_rules.specs.Plans.{at_word, line_taken, gone_on, has_bytes}

-- The faults of a finished run, used to find the rule that gave an attempt its verdict. They are a plan and the rules
-- that were given or ended during the run (own choice).

-- A run: the names of its bus's interfaces, the plan, the pending changes, and the number of attempts so far that tried
-- a frame.
pub record RunSeen : Type 0 where
  pub names : List (List ℕ)
  pub plan : PlanSeen
  pub later : List Later
  pub tried : ℕ

-- The run that has no script lines, rules or changes, on a bus whose interfaces have these names.
abbrev pub no_run : List (List ℕ) → RunSeen
no_run names = record { names = names; plan = no_plan; later = []; tried = 0 }

-- The effect of changes on the plan.

-- The plan after a change. A rule is refused if the plan has 64 rules already.
abbrev pub after_change : Change → PlanSeen → PlanSeen
after_change (change.Give rule) known = if nat_le 64 (length known.rules) then known else with_rule rule known
after_change change.End known = without_rules known

-- The plan after all changes due before the attempt with this number.
abbrev pub changed : PlanSeen → ℕ → List Later → PlanSeen
changed known attempt [] = known
changed known attempt (next ∷ later) =
    if nat_le next.attempt attempt then changed (after_change next.change known) attempt later else known

-- The changes that are not due before the attempt with this number.
abbrev pub still_later : ℕ → List Later → List Later
still_later attempt [] = []
still_later attempt (next ∷ later) = if nat_le next.attempt attempt then still_later attempt later else next ∷ later

-- The run after all changes due before the attempt with this number.
abbrev pub made_until : ℕ → RunSeen → RunSeen
made_until attempt run = record run {
  plan = changed run.plan attempt run.later;
  later = still_later attempt run.later;
}

-- The run after all changes due before the next attempt that tries a frame.
abbrev pub made_ready : RunSeen → RunSeen
made_ready run = made_until run.tried run

-- Changes that are made one at a time.

-- The result of a change: a rule is accepted and gets a number, a rule is refused because the plan has 64 rules
-- already, or all rules end.
abbrev pub made_of : Change → PlanSeen → Made
made_of (change.Give rule) known =
    if nat_le 64 (length known.rules) then made.Refused else made.Taken (numbered (counted_up known.taken) rule)
made_of change.End known = made.Ended

-- The next change, if it is due before the attempt with this number.
abbrev pub due_of : ℕ → List Later → Option Later
due_of attempt [] = None
due_of attempt (next ∷ later) = if nat_le next.attempt attempt then Some next else None

-- The result of the next change, if it is due before the attempt with this number.
abbrev pub next_made : ℕ → PlanSeen → List Later → Option Made
next_made attempt known later = option_map (λ (next : Later). made_of next.change known) (due_of attempt later)

-- The run after the first of these changes, or the same run if that change is not due before the attempt with this
-- number.
abbrev pub after_next : ℕ → RunSeen → List Later → RunSeen
after_next attempt run [] = run
after_next attempt run (next ∷ later) =
    if nat_le next.attempt attempt
    then record run { plan = after_change next.change run.plan; later = later }
    else run

-- Finding the rule that gave a verdict.

-- The two faults, which every interface sees, are the same.
abbrev pub same_global : GlobalKind → GlobalKind → Bool
same_global global.Bit global.Bit = true
same_global global.Form global.Form = true
same_global one other = false

-- The two faults, which some interfaces see, are the same.
abbrev pub same_local : LocalKind → LocalKind → Bool
same_local local.Stuff local.Stuff = true
same_local local.Crc local.Crc = true
same_local local.Form local.Form = true
same_local one other = false

-- The two verdicts are the same.
abbrev pub same_verdict : Verdict → Verdict → Bool
same_verdict Good Good = true
same_verdict LastBit LastBit = true
same_verdict (Global one) (Global other) = same_global one other
same_verdict (Local seen one) (Local also other) = (seen.0 == also.0) && same_local one other
same_verdict one other = false

-- The number of the rule that decided, if the decision has this verdict.
abbrev pub rule_for : Verdict → Decision → Option ℕ
rule_for verdict decision = if same_verdict decision.verdict verdict then decision.rule else None

-- The number of the rule that gave the next attempt this verdict, if a rule did. No change is due before the attempt.
abbrev pub rule_now : RunSeen → Head → Verdict → Option ℕ
rule_now run head verdict = rule_for verdict (decided_at run.plan run.tried head)

-- The run after the next attempt, if no change is due before the attempt.
abbrev pub asked_now : RunSeen → Head → RunSeen
asked_now run head = record run { plan = plan_asked run.plan run.tried head; tried = counted_up run.tried }

-- The number of the rule that gave the next attempt this verdict, if a rule did. All changes due before the attempt are
-- made first.
abbrev pub rule_given : RunSeen → Head → Verdict → Option ℕ
rule_given run head verdict = rule_now (made_ready run) head verdict

-- The run after the next attempt. All changes due before the attempt are made first.
abbrev pub asked_run : RunSeen → Head → RunSeen
asked_run run head = asked_now (made_ready run) head

-- The texts of runs: plan lines, `at N RULE` lines and `at N nofaults` lines.

-- The line begins with `at`.
abbrev pub is_later : List ℕ → Bool
is_later line = bytes_eq (word line) (codes "at")

-- The number of an attempt, which has 1 to 10 decimal digits.
abbrev pub attempt_spelling : List ℕ → Option ℕ
attempt_spelling text = number_in 10 10 text

-- A change: a rule to add, or `nofaults`, which ends all rules.
unfoldable pub change_spelling : List (List ℕ) → List ℕ → Result Change WrongWord
change_spelling names text =
    if bytes_eq text (codes "nofaults") then Ok change.End
    else (do
      rule ← rule_spelling names text
      Ok (change.Give rule))

-- The line of a change: `at`, the number of an attempt, and the change.
unfoldable pub later_spelling : List (List ℕ) → List ℕ → Result Later WrongWord
later_spelling names line = do
  attempt ← ok_or (attempt_spelling (second line)) wrong.Attempt
  change ← change_spelling names (beyond line)
  Ok (record { attempt = attempt; change = change })

-- A change at this attempt may follow the change `before`, whose attempt must not be later. The first change may be at
-- any attempt.
abbrev pub may_follow : ℕ → Option Later → Bool
may_follow attempt None = true
may_follow attempt (Some before) = nat_le before.attempt attempt

-- A change at this attempt may follow these changes, because the attempt numbers do not decrease.
abbrev pub may_come : List Later → ℕ → Bool
may_come later attempt = may_follow attempt (slice_get later (length later - 1))

-- The run after one more change is appended, or the error of line n.
abbrev pub with_later : RunSeen → ℕ → Result Later WrongWord → Result RunSeen PlanError
with_later known n (Ok next) =
    if may_come known.later next.attempt
    then Ok (record known { later = known.later ++ next ∷ [] })
    else Err (plan.Script (script.BadLine n))
with_later known n (Err which) = Err (at_word n which)

-- The run with its plan replaced by this plan, or the plan's error.
abbrev pub run_with_plan : RunSeen → Result PlanSeen PlanError → Result RunSeen PlanError
run_with_plan known read = gone_on read (λ next. Ok (record known { plan = next }))

-- The run after line n. The run before the line is `known`.
abbrev pub run_line : List (List ℕ) → RunSeen → ℕ → List ℕ → Result RunSeen PlanError
run_line names known n line =
    if is_later line then with_later known n (later_spelling names line)
    else run_with_plan known (line_taken names known.plan n line)

-- The run after these lines. The first line has number n.
abbrev pub run_lines : List (List ℕ) → RunSeen → ℕ → List (List ℕ) → Result RunSeen PlanError
run_lines names known n [] = Ok known
run_lines names known n (line ∷ more) =
    gone_on (run_line names known n line) (λ next. run_lines names next (n + 1) more)

-- The run that a text spells, or the error of the first wrong line.
abbrev pub run_spelling : List (List ℕ) → List ℕ → Result RunSeen PlanError
run_spelling names text = run_lines names (no_run names) 1 (lines_in text)

-- Reading a text returns the run that the text spells or its error. It may return NoMemory instead if some line is not
-- empty.
abbrev pub ReadsRunFaults : List (List ℕ) → List ℕ → Result RunSeen PlanError → Type 0
ReadsRunFaults names text (Err (plan.Script script.NoMemory)) = IsTrue (list_any has_bytes (lines_in text))
ReadsRunFaults names text answer = run_spelling names text ≡ answer

-- Taking line n results in the run after the line or in the line's error. It may fail with NoMemory instead if the line
-- is not empty.
abbrev pub TakesRunLine : List (List ℕ) → List ℕ → ℕ → RunSeen → Result (Unit {0}) PlanError → RunSeen → Type 0
TakesRunLine names line n known (Ok done) new = run_line names known n line ≡ Ok new
TakesRunLine names line n known (Err (plan.Script script.NoMemory)) new = IsTrue (has_bytes line)
TakesRunLine names line n known (Err why) new = run_line names known n line ≡ Err why
