use Rattle.std.proofs.Common.{◌≡◌, Bool, true, false, not, ◌&&◌, List, [], ◌∷◌, Some, if◌then◌else◌, refl, ap, sym, ◌∙◌, ◌==◌}
use Rattle.can_rules.specs.Rules.{Head, chosen, after_chosen, asked_rule, gives, is_used_up, rule_matches, usable, verdicts}
use Rattle.can_rules.specs.declared.rule.Rule.{Rule}

-- Used-up rules do not affect later verdicts.

-- A used-up rule gives no verdict.
pub gives-used_up : (rule : Rule) (head : Head) → is_used_up rule ≡ true → gives rule head ≡ false
gives-used_up rule head spent = ap (λ b. (not b && rule_matches rule head) && (rule.skip == 0)) spent

-- A used-up rule does not change.
pub asked-used_up : (rule : Rule) (head : Head) → is_used_up rule ≡ true → asked_rule rule head ≡ rule
asked-used_up rule head spent = rw spent refl

-- Removing used-up rules removes the first rule if it is used up, and keeps it otherwise.
pub unused-used_up : (rule : Rule) (rules : List Rule) → is_used_up rule ≡ true → usable (rule ∷ rules) ≡ usable rules
unused-used_up rule rules spent = ap (λ b. if not b then rule ∷ usable rules else usable rules) spent

pub unused-fresh : (rule : Rule) (rules : List Rule) → is_used_up rule ≡ false → usable (rule ∷ rules) ≡ rule ∷ usable rules
unused-fresh rule rules fresh = ap (λ b. if not b then rule ∷ usable rules else usable rules) fresh

-- Removing used-up rules twice is the same as once.
pub unused-unused : (rules : List Rule) → usable (usable rules) ≡ usable rules
unused-unused [] = refl
unused-unused (rule ∷ rules) =
    elim (is_used_up rule) as (λ b. is_used_up rule ≡ b → usable (usable (rule ∷ rules)) ≡ usable (rule ∷ rules)) [
      | true ↦ λ spent. ap usable (unused-used_up rule rules spent) ∙ unused-unused rules ∙ sym (unused-used_up rule rules spent)
      | false ↦ λ fresh. ap usable (unused-fresh rule rules fresh) ∙ unused-fresh rule (usable rules) fresh ∙ ap (λ rs. rule ∷ rs) (unused-unused rules) ∙ sym (unused-fresh rule rules fresh)
    ] refl

-- The verdict is the same after the used-up rules are removed.
pub chosen-unused : (rules : List Rule) (head : Head) → chosen (usable rules) head ≡ chosen rules head
chosen-unused [] head = refl
chosen-unused (rule ∷ rules) head =
    elim (is_used_up rule) as (λ b. is_used_up rule ≡ b → chosen (usable (rule ∷ rules)) head ≡ chosen (rule ∷ rules) head) [
      | true ↦ λ spent. ap (λ rs. chosen rs head) (unused-used_up rule rules spent) ∙ chosen-unused rules head ∙ ap (λ b. if b then Some rule.verdict else chosen rules head) (sym (gives-used_up rule head spent))
      | false ↦ λ fresh. ap (λ rs. chosen rs head) (unused-fresh rule rules fresh) ∙ ap (λ given. if gives rule head then Some rule.verdict else given) (chosen-unused rules head)
    ] refl

-- Two lists that differ only in used-up rules still differ only in them after the same rule is added in front.
same-front : (rule : Rule) (one other : List Rule) → usable one ≡ usable other → usable (rule ∷ one) ≡ usable (rule ∷ other)
same-front rule one other same = ap (λ rs. if not (is_used_up rule) then rule ∷ rs else rs) same

-- The usable rules after an attempt are the same if the used-up rules were removed before it.
pub after_chosen-unused : (rules : List Rule) (head : Head) → usable (after_chosen (usable rules) head) ≡ usable (after_chosen rules head)
after_chosen-unused [] head = refl
after_chosen-unused (rule ∷ rules) head =
    let after : List Rule → List Rule = λ rs. after_chosen rs head in
    let behind : Bool → List Rule → List Rule = λ b rs. asked_rule rule head ∷ (if b then rs else after rs) in
    elim (is_used_up rule) as (λ b. is_used_up rule ≡ b → usable (after (usable (rule ∷ rules))) ≡ usable (after (rule ∷ rules))) [
      | true ↦ λ spent.
          ap (λ rs. usable (after rs)) (unused-used_up rule rules spent)
          ∙ after_chosen-unused rules head
          ∙ sym (unused-used_up rule (after rules) spent)
          ∙ ap (λ r. usable (r ∷ after rules)) (sym (asked-used_up rule head spent))
          ∙ ap (λ b. usable (behind b rules)) (sym (gives-used_up rule head spent))
      | false ↦ λ fresh. ap (λ rs. usable (after rs)) (unused-fresh rule rules fresh)
          ∙ (elim (gives rule head) as (λ b. usable (behind b (usable rules)) ≡ usable (behind b rules)) [
            | true ↦ same-front (asked_rule rule head) (usable rules) rules (unused-unused rules)
            | false ↦ same-front (asked_rule rule head) (after (usable rules)) (after rules) (after_chosen-unused rules head)
          ])
    ] refl

-- Two lists that differ only in used-up rules give the same verdicts.
same_verdicts : (heads : List Head) (one other : List Rule) → usable one ≡ usable other → verdicts one heads ≡ verdicts other heads
same_verdicts [] one other same = refl
same_verdicts (head ∷ heads) one other same =
    let now : chosen one head ≡ chosen other head = sym (chosen-unused one head) ∙ ap (λ rs. chosen rs head) same ∙ chosen-unused other head in
    let later : usable (after_chosen one head) ≡ usable (after_chosen other head) = sym (after_chosen-unused one head) ∙ ap (λ rs. usable (after_chosen rs head)) same ∙ after_chosen-unused other head in
    ap (λ v. v ∷ verdicts (after_chosen one head) heads) now ∙ ap (λ vs. chosen other head ∷ vs) (same_verdicts heads (after_chosen one head) (after_chosen other head) later)

pub verdicts-unused : (rules : List Rule) (heads : List Head) → verdicts (usable rules) heads ≡ verdicts rules heads
verdicts-unused rules heads = same_verdicts heads (usable rules) rules (unused-unused rules)
