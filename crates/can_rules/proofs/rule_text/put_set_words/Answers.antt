use Rattle.std.proofs.Common.{◌≡◌, ◌<◌, [], ◌∷◌, ◌++◌, ℕ, List, length, get_or, ◌∙◌, append_assoc, sym, ap, arith, subst}
use Rattle.can_frame.specs.Sets.{is_in}
use Rattle.can_rules.specs.RuleText.{names_after_mark, members, set_words}
use Rattle.can_rules.proofs.SetWords.{member_next, none_next, other_next}
use Rattle.can_rules.proofs.rule_text.put_set_words.Goals as goal
use Rattle.can_rules.proofs.rule_text.put_set_words.Goals.{then-contains+in_ok-put_marked_name, else-contains}

pub loop-number-init : goal.loop-number-init
loop-number-init c =
    let rest = names_after_mark 32 (members 0 c.args.names.now c.args.set) in
    ap (λ (x : List ℕ). x ++ rest) c.in_ok-extend_from_slice.ensures.items ∙ append_assoc c.args.out.now.items c.args.words.now rest

pub loop-number-preserved : goal.loop-number-preserved
loop-number-preserved c =
    let names = c.args.names.now in
    let set = c.args.set in
    let i = c.loop-number.number in
    let within : i < length names = omega (arith, c.loop-number-test.true, c.count-number-end.ensures.count) in
    let at : c.in-Some.iface ≡ i = c.in-Some.ensures.1 in
    let named : is_in i set ≡ c.contains.result = ap (λ (n : ℕ). is_in n set) (sym at) ∙ sym c.contains.ensures in
    elim c.if-contains.branch [
      | then-contains+in_ok-put_marked_name w ↦
          rw (w.out-is, w.mark-is)
          (member_next c.loop-number.out.items w.put_marked_name.new.out.items _ c.loop-number.mark i names set within (named ∙ w.if-contains.true)
          (w.in_ok-put_marked_name.ensures ∙ ap (λ (n : ℕ). c.loop-number.out.items ++ c.loop-number.mark ∷ get_or names n []) at) c.loop-number.invariant)
      | else-contains w ↦ rw (w.out-is, w.mark-is) (other_next c.loop-number.out.items _ c.loop-number.mark i names set within (named ∙ w.if-contains.false) c.loop-number.invariant)
    ]

pub returns : goal.returns
unfolding set_words
returns c = none_next c.loop-number.out.items _ c.loop-number.mark c.loop-number.number c.args.names.now c.args.set (omega (arith, c.loop-number-test.false, c.count-number-end.ensures.count)) c.loop-number.invariant
