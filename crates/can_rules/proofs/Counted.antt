use Rattle.std.proofs.Common.{◌≡◌, ◌≤◌, ◌+◌, ◌-◌, ℕ, zero, suc, Bool, true, false, not, ◌&&◌, List, [], ◌∷◌, Some, slice_get, if◌then◌else◌, refl, ap, sym, ◌∙◌, ◌==◌, arith}
use Rattle.std.proofs.lemmas.Bool.Decides.{nat_tests}
use Rattle.can_rules.specs.Rules.{Head, chosen, after_chosen, asked_rule, gives, is_rule_due, is_used_up, is_spent, one_less, rule_matches, gives_at, times_given}
use Rattle.can_rules.specs.declared.rule.Rule.{Rule}

-- How many times a rule gives its verdict.

-- 1 if the test is true, otherwise 0.
abbrev pub once : Bool → ℕ
once b = if b then 1 else 0

-- The rule at index `place` has `n` verdicts left.
pub record HasLeft (rules : List Rule) (place n : ℕ) : Type 0 where
  pub rule : Rule
  pub there : slice_get rules place ≡ Some rule
  pub left : rule.left ≡ Some n

-- The rule at index `place` after an attempt. The verdicts that it gave and the verdicts left add up to the verdicts
-- left before the attempt.
pub record Spends (after : List Rule) (place n : ℕ) (gave : Bool) : Type 0 where
  pub rest : ℕ
  pub has : HasLeft after place rest
  pub together : once gave + rest ≡ n

first_true : (b c : Bool) → (not b && c) ≡ true → b ≡ false
first_true false c h = refl
first_true true c h = cc

some_left : (n : ℕ) → (n == 0) ≡ false → 1 + (n - 1) ≡ n
some_left n h = grind (arith, nat_tests)

same_rule : (one other : Rule) → Some one ≡ Some other → one ≡ other
same_rule one other same = cc

-- The first rule of a list, after it was asked about one attempt.
asked-left : (rule : Rule) (head : Head) (rules : List Rule) (n : ℕ) → rule.left ≡ Some n → Spends (asked_rule rule head ∷ rules) 0 n (gives rule head)
asked-left rule head rules n has =
    let counted : Rule = record rule { left = one_less rule.left } in
    let skipped : Rule = record rule { skip = rule.skip - 1 } in
    elim (is_rule_due rule head) as (λ b. is_rule_due rule head ≡ b → Spends ((if b then (if rule.skip == 0 then counted else skipped) else rule) ∷ rules) 0 n (b && (rule.skip == 0))) [
      | true ↦ λ due.
          let fresh : (n == 0) ≡ false = ap is_spent (sym has) ∙ first_true (is_used_up rule) (rule_matches rule head) due in
          elim (rule.skip == 0) as (λ b. Spends ((if b then counted else skipped) ∷ rules) 0 n b) [
            | true ↦ record { rest = n - 1; has = record { rule = counted; there = refl; left = ap one_less has }; together = some_left n fresh }
            | false ↦ record { rest = n; has = record { rule = skipped; there = refl; left = has }; together = omega arith }
          ]
      | false ↦ λ idle. record { rest = n; has = record { rule = rule; there = refl; left = has }; together = omega arith }
    ] refl

-- Any rule of a list, after one attempt.
pub spends : (rules : List Rule) (head : Head) (place n : ℕ) → HasLeft rules place n → Spends (after_chosen rules head) place n (gives_at place rules head)
spends [] head place n had = absurd (cc had.there)
spends (rule ∷ rules) head zero n had = asked-left rule head (if gives rule head then rules else after_chosen rules head) n (ap (λ (r : Rule). r.left) (same_rule rule had.rule had.there) ∙ had.left)
spends (rule ∷ rules) head (suc place) n had =
    elim (gives rule head) as (λ b. Spends (asked_rule rule head ∷ (if b then rules else after_chosen rules head)) (suc place) n (not b && gives_at place rules head)) [
      | true ↦ record { rest = n; has = record { rule = had.rule; there = had.there; left = had.left }; together = omega arith }
      | false ↦
          let later = spends rules head place n (record { rule = had.rule; there = had.there; left = had.left }) in
          record { rest = later.rest; has = record { rule = later.has.rule; there = later.has.there; left = later.has.left }; together = later.together }
    ]

-- A rule with n verdicts left gives at most n verdicts in successive attempts.
pub times_given-most : (heads : List Head) (rules : List Rule) (place n : ℕ) → HasLeft rules place n → times_given place rules heads ≤ n
times_given-most [] rules place n had = omega arith
times_given-most (head ∷ heads) rules place n had =
    let now = spends rules head place n had in
    let later : times_given place (after_chosen rules head) heads ≤ now.rest = times_given-most heads (after_chosen rules head) place now.rest now.has in
    let together : once (gives_at place rules head) + now.rest ≡ n = now.together in
    omega arith

-- The verdict of the attempt is that of the rule at index `place`, if that rule gives one.
pub chosen-gives_at : (rules : List Rule) (head : Head) (place : ℕ) (rule : Rule) → slice_get rules place ≡ Some rule → gives_at place rules head ≡ true → chosen rules head ≡ Some rule.verdict
chosen-gives_at [] head place rule there gave = absurd (cc there)
chosen-gives_at (first ∷ rules) head zero rule there gave = ap (λ b. if b then Some first.verdict else chosen rules head) gave ∙ ap (λ (r : Rule). Some r.verdict) (same_rule first rule there)
chosen-gives_at (first ∷ rules) head (suc place) rule there gave =
    elim (gives first head) as (λ b. (not b && gives_at place rules head) ≡ true → (if b then Some first.verdict else chosen rules head) ≡ Some rule.verdict) [
      | true ↦ λ h. cc
      | false ↦ λ h. chosen-gives_at rules head place rule there h
    ] gave
