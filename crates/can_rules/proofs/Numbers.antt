use Rattle.std.proofs.Common.{◌≡◌, ◌≤◌, ◌<◌, ◌+◌, ◌-◌, ◌^◌, ◌==◌, ℕ, min, Bool, true, false, not, List, [], ◌∷◌, ◌++◌, Option, Some, None, if◌then◌else◌, refl, ap, sym, subst, arith}
use Rattle.std.specs.FinMap.{get}
use Rattle.can_frame.specs.Frames.{CanFrame, word_of}
use Rattle.can_fault.specs.declared.verdict.Verdict.{Verdict}
use Rattle.can_fault.specs.declared.verdict.Verdict.TheVariants.{Good, Global, Local, LastBit}
use Rattle.can_rules.specs.Rules.{Head, won_by, after_chosen, asked_rule, gives, is_rule_due, is_used_up, one_less, usable}
use Rattle.can_rules.specs.Plans.{PlanSeen, NumbersGrow, HasOwnNumbers, numbered, with_rule, plan_after, after_planned, head_in}
use Rattle.can_rules.specs.declared.rule.Rule.{Rule}

-- The rules of a plan keep increasing numbers.

-- Increasing numbers that are all above a bound are also above a smaller bound.
grow-lower : (rules : List Rule) (low mid high : ℕ) → low ≤ mid → NumbersGrow mid rules high → NumbersGrow low rules high
grow-lower [] low mid high below h = omega (arith, below, h)
grow-lower (rule ∷ rules) low mid high below h = (omega (arith, below, h.0), h.1)

-- The numbers still increase after one more rule is appended.
grow-push : (rules : List Rule) (rule : Rule) (low high n : ℕ) → high < n → NumbersGrow low rules high → NumbersGrow low (rules ++ numbered n rule ∷ []) n
grow-push [] rule low high n above h = (omega (arith, above, h), omega arith)
grow-push (first ∷ rules) rule low high n above h = (h.0, grow-push rules rule first.number high n above h.1)

-- Asking a rule does not change its number.
asked-number : (rule : Rule) (head : Head) → (asked_rule rule head).number ≡ rule.number
asked-number rule head =
    elim (is_rule_due rule head) as (λ b. (if b then (if rule.skip == 0 then record rule { left = one_less rule.left } else record rule { skip = rule.skip - 1 }) else rule).number ≡ rule.number) [
      | true ↦ elim (rule.skip == 0) as (λ b. (if b then record rule { left = one_less rule.left } else record rule { skip = rule.skip - 1 }).number ≡ rule.number) [ true ↦ refl | false ↦ refl ]
      | false ↦ refl
    ]

grow-asked : (rules : List Rule) (head : Head) (low high : ℕ) → NumbersGrow low rules high → NumbersGrow low (after_chosen rules head) high
grow-asked [] head low high h = h
grow-asked (rule ∷ rules) head low high h =
    let rest : List Rule = if gives rule head then rules else after_chosen rules head in
    let grown : NumbersGrow rule.number rest high = (elim (gives rule head) as (λ b. NumbersGrow rule.number (if b then rules else after_chosen rules head) high) [
      | true ↦ h.1
      | false ↦ grow-asked rules head rule.number high h.1
    ]) in
    subst (λ (n : ℕ). (low < n) × NumbersGrow n rest high) (sym (asked-number rule head)) (h.0, grown)

-- The numbers still increase after used-up rules are removed.
grow-unused : (rules : List Rule) (low high : ℕ) → NumbersGrow low rules high → NumbersGrow low (usable rules) high
grow-unused [] low high h = h
grow-unused (rule ∷ rules) low high h =
    elim (is_used_up rule) as (λ b. NumbersGrow low (if not b then rule ∷ usable rules else usable rules) high) [
      | true ↦ grow-lower (usable rules) low rule.number high (omega (arith, h.0)) (grow-unused rules rule.number high h.1)
      | false ↦ (h.0, grow-unused rules rule.number high h.1)
    ]

pub numbered-given : (rule : Rule) (plan : PlanSeen) → HasOwnNumbers plan → plan.taken < 2 ^ 64 - 1 → HasOwnNumbers (with_rule rule plan)
numbered-given rule plan h below =
    let more : min (plan.taken + 1) (2 ^ 64 - 1) ≡ plan.taken + 1 = omega (arith, below) in
    grow-push plan.rules rule 0 plan.taken (min (plan.taken + 1) (2 ^ 64 - 1)) (omega (arith, more)) h

ruled-numbered : (rules : List Rule) (line : Option Verdict) (head : Option Head) (high : ℕ) → NumbersGrow 0 rules high → NumbersGrow 0 (after_planned line rules head) high
ruled-numbered rules (Some verdict) head high h = h
ruled-numbered rules None None high h = h
ruled-numbered rules None (Some head) high h = grow-unused (after_chosen rules head) 0 high (grow-asked rules head 0 high h)

pub numbered-asked : (source : Verdict) (plan : PlanSeen) (attempt : ℕ) (head : Option (ℕ × CanFrame)) → HasOwnNumbers plan → HasOwnNumbers (plan_after source plan attempt head)
numbered-asked Good plan attempt head h = ruled-numbered plan.rules (get plan.lines attempt) (head_in head) plan.taken h
numbered-asked (Global kind) plan attempt head h = h
numbered-asked (Local seen kind) plan attempt head h = h
numbered-asked LastBit plan attempt head h = h

pub numbered-ended : (low high : ℕ) (rules : List Rule) → NumbersGrow low rules high → low ≤ high
numbered-ended low high [] h = h
numbered-ended low high (rule ∷ rules) h = let rest = numbered-ended rule.number high rules h.1 in omega (arith, h.0, rest)
