use Rattle.std.proofs.Common.{◌≡◌, ℕ, zero, suc, Bool, true, false, not, ◌&&◌, ◌==◌, List, [], ◌∷◌, Option, Some, None, slice_get, unwrap_or, if◌then◌else◌, refl, ap, sym, ◌∙◌}
use Rattle.std.specs.Prelude.{option_map}
use Rattle.can_rules.specs.Rules.{Head, chosen, deciding, decision_by, gives, gives_at, GivesAs}
use Rattle.can_rules.specs.Plans.{ruled, decided}
use Rattle.can_rules.specs.declared.rule.Rule.{Rule}
use Rattle.can_fault.specs.declared.verdict.Verdict.TheVariants.{Good}

-- The rule that gives a verdict.

-- The verdict of the rules is that of the deciding rule.
pub chosen-deciding : (rules : List Rule) (head : Head) → chosen rules head ≡ option_map (λ (rule : Rule). rule.verdict) (deciding rules head)
chosen-deciding [] head = refl
chosen-deciding (rule ∷ rules) head =
    elim (gives rule head) as (λ b. (if b then Some rule.verdict else chosen rules head) ≡ option_map (λ (r : Rule). r.verdict) (if b then Some rule else deciding rules head)) [
      | true ↦ refl
      | false ↦ chosen-deciding rules head
    ]

-- The verdict of a decision is the verdict of the rules.
pub ruled-decided : (rules : List Rule) (head : Option Head) → (decided rules head).verdict ≡ ruled rules head
ruled-decided rules None = refl
ruled-decided rules (Some head) =
    (elim (deciding rules head) as (λ r. (decision_by r).verdict ≡ unwrap_or (option_map (λ (rule : Rule). rule.verdict) r) Good) [ None ↦ refl | Some rule ↦ refl ])
    ∙ ap (λ v. unwrap_or v Good) (sym (chosen-deciding rules head))

-- The deciding rule is in the list, and it gives the verdict at its index.
pub record IsAt (rules : List Rule) (head : Head) (rule : Rule) : Type 0 where
  pub place : ℕ
  pub there : slice_get rules place ≡ Some rule
  pub gives : gives_at place rules head ≡ true

same_rule : (one other : Rule) → Some one ≡ Some other → one ≡ other
same_rule one other same = cc

pub deciding-at : (rules : List Rule) (head : Head) (rule : Rule) → deciding rules head ≡ Some rule → IsAt rules head rule
deciding-at [] head rule h = absurd (cc h)
deciding-at (first ∷ rules) head rule h =
    (elim (gives first head) as (λ b. gives first head ≡ b → (if b then Some first else deciding rules head) ≡ Some rule → IsAt (first ∷ rules) head rule) [
      | true ↦ λ gave e. record { place = zero; there = e; gives = gave }
      | false ↦ λ past e.
          let rest = deciding-at rules head rule e in
          record { place = suc rest.place; there = rest.there; gives = ap (λ b. not b && gives_at rest.place rules head) past ∙ rest.gives }
    ]) refl h
