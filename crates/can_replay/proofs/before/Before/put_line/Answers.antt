use Rattle.std.proofs.Common.{◌≡◌, List, ℕ, ◌++◌, ◌∷◌, [], append_assoc, ap, sym, ◌∙◌}
use Rattle.std.proofs.lemmas.List.{append-nil}
use Rattle.can_replay.specs.EventsText.{parts_of, rule_in, rules_before, unended, wire_part, with_parts}
use Rattle.can_replay.specs.Words.{numbered}
use Rattle.can_replay.proofs.before.Before.put_line.Goals as goal

ended : (t t1 t2 a b : List ℕ) → t1 ≡ t ++ (a ++ b) → t2 ≡ t1 ++ 10 ∷ [] → t2 ≡ t ++ (a ++ b ++ [] ++ [] ++ 10 ∷ [])
ended t t1 t2 a b e1 e2 =
    e2
    ∙ ap (λ (x : List ℕ). x ++ 10 ∷ []) e1
    ∙ append_assoc t (a ++ b) (10 ∷ [])
    ∙ ap (λ (x : List ℕ). t ++ (x ++ 10 ∷ [])) (sym (append-nil (a ++ b)) ∙ sym (append-nil (a ++ b ++ [])))

pub returns : goal.returns
unfolding with_parts wire_part rules_before rule_in numbered
returns c past e seen after step =
    ended c.args.out.now.items c.put_front.new.out.items _ (unended c.args.line.now) (parts_of c.args.bus.now.config past e) (c.in_ok-put_front.ensures past e seen after step) c.in_ok-extend_from_slice.ensures.items
