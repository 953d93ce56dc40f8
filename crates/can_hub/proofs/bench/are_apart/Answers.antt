use Rattle.std.proofs.Common.{◌≡◌, rules, arith, subst, inl, inr}
use Rattle.std.specs.Prelude.{Contains, slice_index_or, [], ℕ}
use Rattle.std.proofs.lemmas.Bool.{cases_lt}
use Rattle.can_hub.proofs.bench.are_apart.Goals as goal

pub returns-then-not-is_free : goal.returns-then-not-is_free
returns-then-not-is_free c =
    (λ f. absurd (search (rules, f)), λ apart. let free = c.is_free.ensures.1 (apart c.loop-number.number (omega (arith, c.loop-number-test.true, c.count-number-end.ensures.count))) in search (rules, free))

pub loop-number-preserved : goal.loop-number-preserved
loop-number-preserved c k lt = elim (cases_lt k c.loop-number.number) [
  | inl less ↦ c.loop-number.invariant k less
  | inr more ↦ (let same : c.loop-number.number ≡ k = omega (arith, lt, more) in subst (λ (i : ℕ). ¬ Contains c.args.others.now (slice_index_or c.args.names.now i [])) same (c.is_free.ensures.0 (search rules)))
]

pub returns : goal.returns
returns c = (λ t k lt. c.loop-number.invariant k (omega (arith, lt, c.loop-number-test.false, c.count-number-end.ensures.count)), λ apart. search rules)
