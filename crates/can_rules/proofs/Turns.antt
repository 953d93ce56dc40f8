use Rattle.std.proofs.Common.{◌≡◌, ℕ, ◌+◌, ◌<◌, List, [], ◌∷◌, ◌++◌, length, take, drop, get_or, set, true, false, Option, Some, None, is_some, if◌then◌else◌, ap, sym, ◌∙◌, append_assoc, add-one, arith}
use Rattle.std.proofs.lemmas.List.{drop_more, take_more_set, drop-set-lt, set_split}
use Rattle.can_rules.specs.Rules.{Head, deciding, decision_by, after_chosen, asked_rule, gives, verdict_by_rule}
use Rattle.can_rules.specs.declared.rule.Decision.{Decision}
use Rattle.can_rules.specs.declared.rule.Rule.{Rule}
use Rattle.can_fault.specs.declared.verdict.Verdict.{Verdict}

-- The loop that asks the rules in order.

-- The rules before index i were asked, and none gave a verdict.
pub record AreLookedAt (before items : List Rule) (i : ℕ) (head : Head) : Type 0 where
  pub deciding : deciding before head ≡ deciding (drop i items) head
  pub counts : after_chosen before head ≡ take i items ++ after_chosen (drop i items) head

-- The rule gives a verdict exactly if its answer contains a verdict.
pub gives-is_some : (rule : Rule) (head : Head) (given : Option Verdict) → given ≡ verdict_by_rule rule head → gives rule head ≡ is_some given
gives-is_some rule head given is = elim (gives rule head) as (λ b. given ≡ (if b then Some rule.verdict else None) → b ≡ is_some given) [
  | true ↦ λ e. sym (ap is_some e)
  | false ↦ λ e. sym (ap is_some e)
] is

-- One turn of the loop if the rule at index i gave no verdict.
pub looked_on : (before items : List Rule) (i : ℕ) (head : Head) (blank : Rule) (given : Option Verdict) (next : Rule) → AreLookedAt before items i head → i < length items
    → given ≡ verdict_by_rule (get_or items i blank) head → next ≡ asked_rule (get_or items i blank) head → is_some given ≡ false → AreLookedAt before (set items i next) (i + 1) head
looked_on before items i head blank given next at below gave is was_none =
    let rule : Rule = get_or items i blank in
    let nothing : gives rule head ≡ false = gives-is_some rule head given gave ∙ was_none in
    let split : drop i items ≡ rule ∷ drop (i + 1) items = drop_more items i blank below in
    let rest : drop (i + 1) (set items i next) ≡ drop (i + 1) items = drop-set-lt (i + 1) items i next (omega arith) in
    let front : take (i + 1) (set items i next) ≡ take i items ++ next ∷ [] = take_more_set items i next below in
    record {
      deciding = at.deciding ∙ ap (λ rs. deciding rs head) split ∙ ap (λ b. if b then Some rule else deciding (drop (i + 1) items) head) nothing ∙ ap (λ rs. deciding rs head) (sym rest);
      counts = at.counts
          ∙ ap (λ rs. take i items ++ after_chosen rs head) split
          ∙ ap (λ b. take i items ++ asked_rule rule head ∷ (if b then drop (i + 1) items else after_chosen (drop (i + 1) items) head)) nothing
          ∙ ap (λ r. take i items ++ r ∷ after_chosen (drop (i + 1) items) head) (sym is)
          ∙ sym (append_assoc (take i items) (next ∷ []) _)
          ∙ ap (λ xs. xs ++ after_chosen (drop (i + 1) items) head) (sym front)
          ∙ ap (λ rs. take (i + 1) (set items i next) ++ after_chosen rs head) (sym rest);
    }

-- The decision with this verdict and rule number.
abbrev pub given_with : Verdict → ℕ → Decision
given_with verdict number = record { verdict = verdict; rule = Some number }

same_some : (one other : Verdict) → Some one ≡ Some other → one ≡ other
same_some one other h = cc

-- If a rule gave a verdict, that verdict is its own.
gave_its_own : (rule : Rule) (verdict : Verdict) → Some verdict ≡ Some rule.verdict → given_with verdict rule.number ≡ decision_by (Some rule)
gave_its_own rule verdict same = ap (λ v. given_with v rule.number) (same_some verdict rule.verdict same)

-- The end of the loop if the rule at index i gave its verdict.
pub looked_end : (before items : List Rule) (i : ℕ) (head : Head) (blank : Rule) (verdict : Verdict) (next : Rule) → AreLookedAt before items i head → i < length items
    → Some verdict ≡ verdict_by_rule (get_or items i blank) head → next ≡ asked_rule (get_or items i blank) head
    → (given_with verdict (get_or items i blank).number ≡ decision_by (deciding before head)) × (set items i next ≡ after_chosen before head)
looked_end before items i head blank verdict next at below gave is =
    let rule : Rule = get_or items i blank in
    let gives_it : gives rule head ≡ true = gives-is_some rule head (Some verdict) gave in
    let split : drop i items ≡ rule ∷ drop (i + 1) items = drop_more items i blank below in (
      gave_its_own rule verdict (gave ∙ ap (λ b. if b then Some rule.verdict else None) gives_it)
          ∙ ap decision_by (sym (at.deciding ∙ ap (λ rs. deciding rs head) split ∙ ap (λ b. if b then Some rule else deciding (drop (i + 1) items) head) gives_it)),
      sym (at.counts
          ∙ ap (λ rs. take i items ++ after_chosen rs head) split
          ∙ ap (λ b. take i items ++ asked_rule rule head ∷ (if b then drop (i + 1) items else after_chosen (drop (i + 1) items) head)) gives_it
          ∙ ap (λ r. take i items ++ r ∷ drop (i + 1) items) (sym is)
          ∙ rw add-one (sym (set_split items i next below))),
    )
