use Rattle.std.specs.Prelude.{ℕ, ◌-◌, ◌^◌, nat_le, List, [], ◌∷◌, ◌++◌, codes, decimal, if◌then◌else◌}
use Rattle.std.specs.List.{flat_map}
use Rattle.can_rules.specs.declared.rule.Rule.{Rule}
use Rattle.can_rules.specs.declared.run_faults.Later.{Later}
use Rattle.can_rules.specs.declared.run_faults.Made.{Made}
use Rattle.can_rules.specs.declared.run_faults.Made.TheVariants as made
use Rattle.can_rules.specs.Plans.{PlanSeen}
use Rattle.can_rules.specs.RuleText.{rule_words}
use Rattle.can_rules.specs.RunFaults.{RunSeen, after_change, made_of}

-- The rules that a bus accepts, as lines among the events. The lines show the number of each rule (own choice).

-- The line of a rule that the bus accepts: its number and its words.
unfoldable pub rule_line : List (List ℕ) → Rule → List ℕ
rule_line names rule = codes "rule " ++ decimal rule.number ++ 32 ∷ rule_words names rule ++ 10 ∷ []

-- The line for the result of a change of the rules. A refused rule has no line.
abbrev pub made_line : List (List ℕ) → Made → List ℕ
made_line names (made.Taken rule) = rule_line names rule
made_line names made.Refused = []
made_line names made.Ended = codes "nofaults" ++ 10 ∷ []

-- The lines of the changes that are due before the attempt with this number.
abbrev pub changes_lines : List (List ℕ) → PlanSeen → ℕ → List Later → List ℕ
changes_lines names plan attempt [] = []
changes_lines names plan attempt (next ∷ later) =
    if nat_le next.attempt attempt
    then made_line names (made_of next.change plan)
    ++ changes_lines names (after_change next.change plan) attempt later
    else []

-- The lines of the script's rules, which the bus accepts at the start.
abbrev pub first_rules : RunSeen → List ℕ
first_rules run = flat_map (rule_line run.names) run.plan.rules

-- The lines of a run's changes that are due before the attempt with this number.
abbrev pub rules_until : ℕ → RunSeen → List ℕ
rules_until attempt run = changes_lines run.names run.plan attempt run.later

-- The lines of the changes that are due before the next attempt that tries a frame.
abbrev pub next_rules : RunSeen → List ℕ
next_rules run = rules_until run.tried run

-- The lines of all remaining changes: no attempt has a number above 2 ^ 64 - 1.
abbrev pub last_rules : RunSeen → List ℕ
last_rules run = rules_until (2 ^ 64 - 1) run
