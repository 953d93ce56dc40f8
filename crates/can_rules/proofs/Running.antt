use Rattle.std.proofs.Common.{◌≡◌, ℕ, ◌+◌, Bool, true, false, ◌&&◌, ◌==◌, List, [], ◌∷◌, Option, Some, None, Result, Ok, Err, if◌then◌else◌, refl, ap, sym, ◌∙◌, arith}
use Rattle.std.proofs.lemmas.Bool.Decides.{nat_tests}
use Rattle.std.specs.Prelude.{◌||◌}
use Rattle.std.specs.FinMap.{get}
use Rattle.std.specs.List.{list_any}
use Rattle.can_frame.specs.Frames.{CanFrame, word_of}
use Rattle.can_frame.specs.declared.iface.IfaceSet.{IfaceSet}
use Rattle.can_fault.specs.Scripts.{lines_in}
use Rattle.can_fault.specs.declared.verdict.GlobalKind.{GlobalKind}
use Rattle.can_fault.specs.declared.verdict.GlobalKind.TheVariants as global
use Rattle.can_fault.specs.declared.verdict.LocalKind.{LocalKind}
use Rattle.can_fault.specs.declared.verdict.LocalKind.TheVariants as local
use Rattle.can_fault.specs.declared.verdict.Verdict.{Verdict}
use Rattle.can_fault.specs.declared.verdict.Verdict.TheVariants.{Good, Global, Local, LastBit}
use Rattle.can_rules.specs.Rules.{Head, won_by, deciding, decision_by, GivesAs}
use Rattle.can_rules.specs.Plans.{PlanSeen, given, planned, plan_after, decided, decided_with, decided_at, plan_asked, line_taken, lines_taken, plan_spelling, gone_on}
use Rattle.can_rules.specs.RunFaults.{RunSeen, no_run, changed, made_ready, same_global, same_local, same_verdict, rule_for, rule_given, asked_run, is_later, run_line, run_lines, run_spelling, run_with_plan, with_later, later_spelling}
use Rattle.can_rules.specs.declared.plan.PlanError.{PlanError}
use Rattle.can_rules.specs.declared.rule.Rule.{Rule}
use Rattle.can_rules.specs.declared.rule.Decision.{Decision}
use Rattle.can_rules.proofs.Deciding.{IsAt, deciding-at, ruled-decided}

-- Facts about the verdicts that a run gives to its attempts.

-- Two verdicts are equal if the test `same_verdict` is true for them.
global-same : (one other : GlobalKind) → same_global one other ≡ true → one ≡ other
global-same global.Bit global.Bit h = refl
global-same global.Form global.Form h = refl
global-same global.Bit global.Form h = absurd (cc h)
global-same global.Form global.Bit h = absurd (cc h)

local-same : (one other : LocalKind) → same_local one other ≡ true → one ≡ other
local-same local.Stuff local.Stuff h = refl
local-same local.Crc local.Crc h = refl
local-same local.Form local.Form h = refl
local-same local.Stuff local.Crc h = absurd (cc h)
local-same local.Stuff local.Form h = absurd (cc h)
local-same local.Crc local.Stuff h = absurd (cc h)
local-same local.Crc local.Form h = absurd (cc h)
local-same local.Form local.Stuff h = absurd (cc h)
local-same local.Form local.Crc h = absurd (cc h)

both : (a b : Bool) → (a && b) ≡ true → (a ≡ true) × (b ≡ true)
both true b h = (refl, h)
both false b h = absurd (cc h)

number-same : (m n : ℕ) → (m == n) ≡ true → m ≡ n
number-same m n h = grind (arith, nat_tests)

set-same : (one other : IfaceSet) → one.0 ≡ other.0 → one ≡ other
set-same one other h = ap (λ (n : ℕ). record { 0 = n }) h

verdict-same : (one other : Verdict) → same_verdict one other ≡ true → one ≡ other
verdict-same Good Good h = refl
verdict-same LastBit LastBit h = refl
verdict-same (Global one) (Global other) h = ap (λ k. Global k) (global-same one other h)
verdict-same (Local seen one) (Local also other) h =
    let parts = both (seen.0 == also.0) (same_local one other) h in
    ap (λ s. Local s one) (set-same seen also (number-same seen.0 also.0 parts.0)) ∙ ap (λ k. Local also k) (local-same one other parts.1)
verdict-same Good LastBit h = absurd (cc h)
verdict-same Good (Global k) h = absurd (cc h)
verdict-same Good (Local s k) h = absurd (cc h)
verdict-same LastBit Good h = absurd (cc h)
verdict-same LastBit (Global k) h = absurd (cc h)
verdict-same LastBit (Local s k) h = absurd (cc h)
verdict-same (Global k) Good h = absurd (cc h)
verdict-same (Global k) LastBit h = absurd (cc h)
verdict-same (Global k) (Local s l) h = absurd (cc h)
verdict-same (Local s k) Good h = absurd (cc h)
verdict-same (Local s k) LastBit h = absurd (cc h)
verdict-same (Local s k) (Global l) h = absurd (cc h)

-- The test `same_verdict` is true for a verdict and itself.
number-itself : (n : ℕ) → (n == n) ≡ true
number-itself n = grind (arith, nat_tests)

local-itself : (kind : LocalKind) → same_local kind kind ≡ true
local-itself local.Stuff = refl
local-itself local.Crc = refl
local-itself local.Form = refl

verdict-itself : (verdict : Verdict) → same_verdict verdict verdict ≡ true
verdict-itself Good = refl
verdict-itself LastBit = refl
verdict-itself (Global global.Bit) = refl
verdict-itself (Global global.Form) = refl
verdict-itself (Local seen kind) = ap (λ b. b && same_local kind kind) (number-itself seen.0) ∙ local-itself kind

-- The rule whose number is reported gave the verdict.
same_number : (one other : ℕ) → Some one ≡ Some other → one ≡ other
same_number one other same = cc

named-by : (rules : List Rule) (head : Head) (verdict : Verdict) (number : ℕ) (first : Option Rule) → deciding rules head ≡ first → rule_for verdict (decision_by first) ≡ Some number → GivesAs rules head verdict number
named-by rules head verdict number None is h =
    absurd ((elim (same_verdict Good verdict) as (λ b. (if b then None else None) ≡ Some number → ⊥) [ true ↦ λ e. cc | false ↦ λ e. cc ]) h)
named-by rules head verdict number (Some rule) is h =
    let at = deciding-at rules head rule is in
    (elim (same_verdict rule.verdict verdict) as (λ b. same_verdict rule.verdict verdict ≡ b → (if b then Some rule.number else None) ≡ Some number → GivesAs rules head verdict number) [
      | true ↦ λ same e. record {
        place = at.place;
        rule = rule;
        there = at.there;
        gives = at.gives;
        number_is = same_number rule.number number e;
        verdict_is = verdict-same rule.verdict verdict same;
      }
      | false ↦ λ unlike e. absurd (cc e)
    ]) refl h

named-with : (line : Option Verdict) (rules : List Rule) (head : Head) (verdict : Verdict) (number : ℕ) → rule_for verdict (decided_with line rules (Some head)) ≡ Some number → GivesAs rules head verdict number
named-with (Some own) rules head verdict number h =
    absurd ((elim (same_verdict own verdict) as (λ b. (if b then None else None) ≡ Some number → ⊥) [ true ↦ λ e. cc | false ↦ λ e. cc ]) h)
named-with None rules head verdict number h = named-by rules head verdict number (deciding rules head) refl h

pub named : (run : RunSeen) (head : Head) (verdict : Verdict) (number : ℕ) → rule_given run head verdict ≡ Some number → GivesAs (made_ready run).plan.rules head verdict number
named run head verdict number h = named-with (get (made_ready run).plan.lines run.tried) (made_ready run).plan.rules head verdict number h

-- A run without pending changes decides as its plan does.
ready-none : (run : RunSeen) → run.later ≡ [] → (made_ready run).plan ≡ run.plan
ready-none run none = ap (λ later. changed run.plan run.tried later) none

pub asked-none : (run : RunSeen) (winner : ℕ) (frame : CanFrame) → run.later ≡ [] → (asked_run run (won_by winner (word_of frame))).plan ≡ plan_after Good run.plan run.tried (Some (winner, frame))
asked-none run winner frame none = ap (λ plan. plan_asked plan run.tried (won_by winner (word_of frame))) (ready-none run none)

-- The verdict of a decision is the plan's verdict.
decided-given : (line : Option Verdict) (rules : List Rule) (head : Option Head) → (decided_with line rules head).verdict ≡ planned line rules head
decided-given (Some verdict) rules head = refl
decided-given None rules head = ruled-decided rules head

for-itself : (verdict : Verdict) (decision : Decision) → decision.verdict ≡ verdict → rule_for verdict decision ≡ decision.rule
for-itself verdict decision same = ap (λ b. if b then decision.rule else None) (ap (λ v. same_verdict v verdict) same ∙ verdict-itself verdict)

pub rule-none : (run : RunSeen) (winner : ℕ) (frame : CanFrame) → run.later ≡ []
    → rule_given run (won_by winner (word_of frame)) (given Good run.plan run.tried (Some (winner, frame))) ≡ (decided_at run.plan run.tried (won_by winner (word_of frame))).rule
rule-none run winner frame none =
    let head = won_by winner (word_of frame) in
    let verdict = given Good run.plan run.tried (Some (winner, frame)) in
    ap (λ plan. rule_for verdict (decided_at plan run.tried head)) (ready-none run none)
    ∙ for-itself verdict (decided_at run.plan run.tried head) (decided-given (get run.plan.lines run.tried) run.plan.rules (Some head))

-- A text without lines of changes.
neither : (a b : Bool) → (a || b) ≡ false → (a ≡ false) × (b ≡ false)
neither false b h = (refl, h)
neither true b h = absurd (cc h)

-- The run that has this plan and no changes.
abbrev pub only_plan : List (List ℕ) → PlanSeen → RunSeen
only_plan names plan = record (no_run names) { plan = plan }

lines-none : (names lines : List (List ℕ)) (plan : PlanSeen) (n : ℕ) → list_any is_later lines ≡ false
    → run_lines names (only_plan names plan) n lines ≡ gone_on (lines_taken names plan n lines) (λ next. Ok (only_plan names next))
lines-none names [] plan n none = refl
lines-none names (line ∷ more) plan n none =
    let parts = neither (is_later line) (list_any is_later more) none in
    let on : RunSeen → Result RunSeen PlanError = λ next. run_lines names next (n + 1) more in
    ap (λ b. gone_on (if b then with_later (only_plan names plan) n (later_spelling names line) else run_with_plan (only_plan names plan) (line_taken names plan n line)) on) parts.0
    ∙ (elim (line_taken names plan n line) as (λ r. gone_on (run_with_plan (only_plan names plan) r) on ≡ gone_on (gone_on r (λ next. lines_taken names next (n + 1) more)) (λ next. Ok (only_plan names next))) [
      | Ok next ↦ lines-none names more next (n + 1) parts.1
      | Err why ↦ refl
    ])

pub text-none : (names : List (List ℕ)) (text : List ℕ) → list_any is_later (lines_in text) ≡ false → run_spelling names text ≡ run_with_plan (no_run names) (plan_spelling names text)
text-none names text none = lines-none names (lines_in text) (no_run names).plan 1 none
