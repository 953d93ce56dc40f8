use Rattle.std.specs.Prelude.{◌≡◌, ℕ, zero, suc, ◌+◌, ◌-◌, ◌==◌, Bool, true, false, not, ◌&&◌, if◌then◌else◌}
use Rattle.std.specs.Prelude.{List, [], ◌∷◌, ◌++◌, filter, length, slice_get, ◌<◌, ◌≤◌}
use Rattle.std.specs.Prelude.{Option, Some, None, Result, Ok, Err}
use Rattle.can_frame.specs.Sets.{is_in}
use Rattle.can_frame.specs.declared.iface.IfaceSet.{IfaceSet}
use Rattle.can_filter.specs.Filters.{matches as fits}
use Rattle.can_rules.specs.declared.rule.Rule.{Rule}
use Rattle.can_rules.specs.declared.rule.Decision.{Decision}
use Rattle.can_rules.specs.declared.rules.RuleRefusal.{RuleRefusal}
use Rattle.can_rules.specs.declared.rules.RuleRefusal.TheVariants.{TooManyRules, NoMemory}
use Rattle.can_fault.specs.declared.verdict.Verdict.{Verdict}
use Rattle.can_fault.specs.declared.verdict.Verdict.TheVariants.{Good}

-- Rules that give attempts their verdicts (own choice).

-- An attempt as rules see it: the winning interface and the identifier word of its frame.
pub record Head : Type 0 where
  pub winner : ℕ
  pub word : ℕ

-- The attempt that this interface wins with a frame that has this identifier word.
abbrev pub won_by : ℕ → ℕ → Head
won_by winner word = record { winner = winner; word = word }

-- One of the senders wins the attempt. If a rule names no senders, any interface may win.
abbrev pub is_won_by : Option IfaceSet → Head → Bool
is_won_by None head = true
is_won_by (Some senders) head = is_in head.winner senders

-- The attempt's sender and identifier word match the rule. The identifier word is matched like a filter of linux/can.h.
abbrev pub rule_matches : Rule → Head → Bool
rule_matches rule head = is_won_by rule.senders head && fits rule.filter head.word

-- The number of verdicts left is limited, and it is 0.
abbrev pub is_spent : Option ℕ → Bool
is_spent None = false
is_spent (Some left) = left == 0

-- The rule does not give any more verdicts.
abbrev pub is_used_up : Rule → Bool
is_used_up rule = is_spent rule.left

-- One verdict fewer, if the number of verdicts is limited.
abbrev pub one_less : Option ℕ → Option ℕ
one_less None = None
one_less (Some left) = Some (left - 1)

-- The rule matches the attempt and is not used up, so it gives its verdict or skips the attempt.
abbrev pub is_rule_due : Rule → Head → Bool
is_rule_due rule head = not (is_used_up rule) && rule_matches rule head

-- The rule gives its verdict for the attempt.
abbrev pub gives : Rule → Head → Bool
gives rule head = is_rule_due rule head && (rule.skip == 0)

-- The verdict that the rule gives for the attempt, if it gives one.
abbrev pub verdict_by_rule : Rule → Head → Option Verdict
verdict_by_rule rule head = if gives rule head then Some rule.verdict else None

-- The rule after it was asked. A rule that is used up or does not match is unchanged. A rule that still skips attempts
-- has one fewer to skip. Any other rule has one verdict fewer left.
abbrev pub asked_rule : Rule → Head → Rule
asked_rule rule head =
    if is_rule_due rule head
    then (if rule.skip == 0 then record rule { left = one_less rule.left } else record rule { skip = rule.skip - 1 })
    else rule

-- The verdict for an attempt, if a rule gives one. The rules are asked in order until one gives a verdict.
abbrev pub chosen : List Rule → Head → Option Verdict
chosen [] head = None
chosen (rule ∷ rules) head = if gives rule head then Some rule.verdict else chosen rules head

-- The rule that gives the verdict for the attempt, as it was before it was asked.
abbrev pub deciding : List Rule → Head → Option Rule
deciding [] head = None
deciding (rule ∷ rules) head = if gives rule head then Some rule else deciding rules head

-- The decision with this verdict if no rule gave it.
abbrev pub without_rule : Verdict → Decision
without_rule verdict = record { verdict = verdict; rule = None }

-- The verdict and the number of the deciding rule, or a good verdict if no rule decides.
abbrev pub decision_by : Option Rule → Decision
decision_by None = without_rule Good
decision_by (Some rule) = record { verdict = rule.verdict; rule = Some rule.number }

-- The rules after the attempt. Rules that come after the deciding rule are not asked.
abbrev pub after_chosen : List Rule → Head → List Rule
after_chosen [] head = []
after_chosen (rule ∷ rules) head = asked_rule rule head ∷ (if gives rule head then rules else after_chosen rules head)

-- The rules that are not used up.
abbrev pub usable : List Rule → List Rule
usable rules = filter (λ rule. not (is_used_up rule)) rules

-- The verdicts of the rules for successive attempts.
abbrev pub verdicts : List Rule → List Head → List (Option Verdict)
verdicts rules [] = []
verdicts rules (head ∷ heads) = chosen rules head ∷ verdicts (after_chosen rules head) heads

-- The rules after these successive attempts.
abbrev pub rules_after : List Rule → List Head → List Rule
rules_after rules [] = rules
rules_after rules (head ∷ heads) = rules_after (after_chosen rules head) heads

-- The rule at index `place` gives its verdict for the attempt.
abbrev pub gives_at : ℕ → List Rule → Head → Bool
gives_at place [] head = false
gives_at zero (rule ∷ rules) head = gives rule head
gives_at (suc place) (rule ∷ rules) head = not (gives rule head) && gives_at place rules head

-- A rule with this number gives this verdict for the attempt.
pub record GivesAs (rules : List Rule) (head : Head) (verdict : Verdict) (number : ℕ) : Type 0 where
  pub place : ℕ
  pub rule : Rule
  pub there : slice_get rules place ≡ Some rule
  pub gives : gives_at place rules head ≡ true
  pub number_is : rule.number ≡ number
  pub verdict_is : rule.verdict ≡ verdict

-- The number of these successive attempts for which the rule at index `place` gives its verdict.
abbrev pub times_given : ℕ → List Rule → List Head → ℕ
times_given place rules [] = 0
times_given place rules (head ∷ heads) =
    (if gives_at place rules head then 1 else 0) + times_given place (after_chosen rules head) heads

-- The two lists differ only in the order of two neighbouring rules, and no attempt matches both of those rules.
pub record AreSwapped (one other : List Rule) : Type 0 where
  pub front : List Rule
  pub first : Rule
  pub second : Rule
  pub back : List Rule
  pub one_is : one ≡ front ++ first ∷ second ∷ back
  pub other_is : other ≡ front ++ second ∷ first ∷ back
  pub apart : (head : Head) → (rule_matches first head && rule_matches second head) ≡ false

-- The rule is appended, or refused because there are 64 rules already or memory is refused.
abbrev pub AddsRule : Rule → List Rule → Result (Unit {0}) RuleRefusal → List Rule → Type 0
AddsRule rule old (Ok done) new = (length old < 64) × (new ≡ old ++ rule ∷ [])
AddsRule rule old (Err TooManyRules) new = (64 ≤ length old) × (new ≡ old)
AddsRule rule old (Err NoMemory) new = (length old < 64) × (new ≡ old)
AddsRule rule old (Err why) new = ⊥
