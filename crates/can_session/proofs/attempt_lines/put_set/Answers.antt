use Rattle.std.proofs.Common.{◌≡◌, sym, ap, subst, ◌∙◌, ◌++◌, codes, ℕ, ◌<◌, ◌≤◌, length, arith, rules}
use Rattle.std.proofs.lemmas.Bool.{eqb-true}
use Rattle.can_session.specs.AttemptLines.{set_text}
use Rattle.can_session.proofs.SetTexts.{rest_text, to_come, run_kept, other_kept, none_text}
use Rattle.can_session.proofs.attempt_lines.put_set.Goals as goal
use Rattle.can_session.proofs.attempt_lines.put_set.Goals.{then-number-end+in_ok-put_run, else-number-end}

pub loop-number-preserved : goal.loop-number-preserved
loop-number-preserved c =
    let names = c.args.names.now in
    let set = c.args.set in
    let i = c.loop-number.number in
    let e = c.run_end-end.result in
    let said = c.loop-number.said.items in
    let first = c.loop-number.is_first in
    let whole = c.args.said.now.items ++ set_text names set in
    let found = c.run_end-end.ensures in
    let within : e ≤ length names = omega (arith, found.within, c.count-count.ensures.count) in
    elim c.if-number-end.branch [
      | then-number-end+in_ok-put_run w ↦ run_kept names set i e first c.if-number-end.is_first said c.if-number-end.said.items whole w.if-number-end.true within found.members
          (λ inside. found.next (omega (arith, inside, c.count-count.ensures.count))) w.is_first-is (ap (λ v. v.items) w.said-is ∙ w.in_ok-put_run.ensures) c.loop-number.invariant
      | else-number-end w ↦
          let here : i ≡ e = omega (arith, found.after, w.if-number-end.false) in
          let inside : e < length names = omega (arith, here, c.loop-number-test.true, c.count-count.ensures.count) in
          other_kept names set e first c.if-number-end.is_first said c.if-number-end.said.items whole inside (found.next (omega (arith, inside, c.count-count.ensures.count)))
          w.is_first-is (ap (λ v. v.items) w.said-is) (subst (λ (n : ℕ). said ++ rest_text first (to_come names set n) ≡ whole) here c.loop-number.invariant)
    ]

pub returns-then-is_empty : goal.returns-then-is_empty
returns-then-is_empty c =
    let none : c.args.set.0 ≡ 0 = eqb-true c.args.set.0 0 (sym c.is_empty.ensures ∙ c.if-is_empty.true) in
    let text : set_text c.args.names.now c.args.set ≡ codes "-" =
    ap (λ (bits : ℕ). set_text c.args.names.now (record { 0 = bits })) none ∙ none_text c.args.names.now in
    rw text (search rules)
