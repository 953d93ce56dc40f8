use Rattle.std.proofs.Common.{◌≡◌, ◌+◌, ◌++◌, List, ℕ, take, length, sym, ap, subst, ◌∙◌, arith}
use Rattle.std.proofs.lemmas.List.{take_all}
use Rattle.can_proto.specs.Messages.{messages_of, kept_of}
use Rattle.can_proto.specs.Scanning.{text_kept_at, text_kept, IsWithin}
use Rattle.can_proto.proofs.Steps.{starts-carried, starts-outside, nothing-yet, parts, past-given, past-keeps, kept_by}
use Rattle.can_proto.proofs.scanning.scan.Goals as goal
use Rattle.can_proto.proofs.scanning.scan.Goals.{then-is_open, else-is_open}

pub loop-i-init : goal.loop-i-init
loop-i-init c =
    let n = nothing-yet _ c.requires in
    elim c.if-is_open.branch [
      | then-is_open w ↦ record {
        given = c.new-out.ensures.items ∙ n.0;
        keeps = starts-carried c.args.held.now c.args.piece.now c.if-is_open.place w.place-is ∙ sym (ap (λ b. text_kept b c.args.held.now) w.if-is_open.true) ∙ n.1;
        within = rw w.place-is tt;
        order = omega arith;
      }
      | else-is_open w ↦ record {
        given = c.new-out.ensures.items ∙ n.0;
        keeps = starts-outside c.args.held.now c.args.piece.now c.if-is_open.place w.place-is ∙ sym (ap (λ b. text_kept b c.args.held.now) w.if-is_open.false) ∙ n.1;
        within = rw w.place-is tt;
        order = omega arith;
      }
    ]

pub pass-requires-clause-was : goal.pass-requires-clause-was
pass-requires-clause-was c = kept_by (text_kept_at c.args.held.now c.args.piece.now c.loop-i.i c.loop-i.place) (text_kept c.args.is_open c.args.held.now ++ take c.loop-i.i c.args.piece.now) c.loop-i.invariant.keeps

pub at_mark-requires-clause-was : goal.at_mark-requires-clause-was
at_mark-requires-clause-was c =
    let text = text_kept c.args.is_open c.args.held.now in
    let t = text_kept_at c.args.held.now c.args.piece.now c.loop-i.i c.loop-i.place in
    let keeps = past-keeps text (take c.loop-i.i c.args.piece.now) _ _ t _ (parts c.args.piece.now c.loop-i.i c.next_mark-end.result c.next_mark-end.ensures.after) c.loop-i.invariant.keeps c.in_ok-place.ensures.1 in
    kept_by _ (text ++ take c.next_mark-end.result c.args.piece.now) keeps

pub returns-then-end-piece : goal.returns-then-end-piece
returns-then-end-piece c =
    let text = text_kept c.args.is_open c.args.held.now in
    let t = text_kept_at c.args.held.now c.args.piece.now c.loop-i.i c.loop-i.place in
    let whole = parts c.args.piece.now c.loop-i.i c.next_mark-end.result c.next_mark-end.ensures.after in
    let here : length c.args.piece.now ≡ c.next_mark-end.result = omega arith in
    record {
      given = past-given text (take c.loop-i.i c.args.piece.now) _ _ t _ _ whole c.loop-i.invariant.given c.loop-i.invariant.keeps c.in_ok-place.ensures.0
          ∙ ap (λ (x : List ℕ). messages_of (text ++ x)) (take_all c.next_mark-end.result c.args.piece.now (omega arith));
      keeps = ap (λ (n : ℕ). text_kept_at c.args.held.now c.args.piece.now n c.in_ok-place.place) here
          ∙ past-keeps text (take c.loop-i.i c.args.piece.now) _ _ t _ whole c.loop-i.invariant.keeps c.in_ok-place.ensures.1
          ∙ ap (λ (x : List ℕ). kept_of (text ++ x)) (take_all c.next_mark-end.result c.args.piece.now (omega arith));
      within = subst (λ (n : ℕ). IsWithin c.in_ok-place.place n) (sym here) c.in_ok-place.ensures.2;
    }

pub loop-i-preserved : goal.loop-i-preserved
loop-i-preserved c =
    let text = text_kept c.args.is_open c.args.held.now in
    let end = c.next_mark-end.result in
    let t = text_kept_at c.args.held.now c.args.piece.now c.loop-i.i c.loop-i.place in
    let whole = parts c.args.piece.now c.loop-i.i end c.next_mark-end.ensures.after in
    let given = past-given text (take c.loop-i.i c.args.piece.now) _ _ t _ _ whole c.loop-i.invariant.given c.loop-i.invariant.keeps c.in_ok-place.ensures.0 in
    let keeps = past-keeps text (take c.loop-i.i c.args.piece.now) _ _ t _ whole c.loop-i.invariant.keeps c.in_ok-place.ensures.1 in
    let more = parts c.args.piece.now end (end + 1) (omega arith) in
    record {
      given = past-given text (take end c.args.piece.now) _ _ _ _ _ more given keeps c.in_ok-place-2.ensures.0;
      keeps = past-keeps text (take end c.args.piece.now) _ _ _ _ more keeps c.in_ok-place-2.ensures.1;
      within = c.in_ok-place-2.ensures.2;
      order = omega arith;
    }
