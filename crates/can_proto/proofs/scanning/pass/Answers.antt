use Rattle.std.proofs.Common.{◌≤◌, ℕ, ◌∷◌, List, take, ap, ◌∙◌, arith}
use Rattle.can_proto.proofs.Steps.{nothing_new, too_long-at, goes_on-at, passes_by-at, text-carried, text-at, text-outside, pushed, carried_more, started_more, carried_length, started_length, held_fits}
use Rattle.can_proto.proofs.scanning.pass.Goals as goal

pub returns-in-Outside : goal.returns-in-Outside
returns-in-Outside c =
    let e = text-outside c.args.held.now c.args.piece.now c.args.i c.args.place c.in-Outside.is in
    let passed = passes_by-at _ _ e c.requires.clear in
    (nothing_new _ _ passed.0, passed.1, tt)

pub returns-in_ok-push-in-Carried : goal.returns-in_ok-push-in-Carried
returns-in_ok-push-in-Carried c =
    let e = text-carried c.args.held.now c.args.piece.now c.args.i c.args.place c.in-Carried.is in
    let n = carried_length c.args.held.now c.args.piece.now c.args.i c.args.end c.requires.order c.requires.there in
    let long = too_long-at _ _ _ e c.requires.was c.requires.clear (omega arith) in
    (pushed _ _ _ _ c.in_ok-push-in-Carried.ensures.items long.0, long.1, tt)

pub returns-else-held-end : goal.returns-else-held-end
returns-else-held-end c =
    let e = text-carried c.args.held.now c.args.piece.now c.args.i c.args.place c.in-Carried.is in
    let room = held_fits _ c.args.held.now (take c.args.i c.args.piece.now) e c.requires.was in
    let n = carried_length c.args.held.now c.args.piece.now c.args.i c.args.end c.requires.order c.requires.there in
    let short = goes_on-at _ _ _ e c.requires.was c.requires.clear (omega arith) in
    (nothing_new _ _ short.0, ap (λ (r : List ℕ). 60 ∷ r) (carried_more c.args.held.now c.args.piece.now c.args.i c.args.end c.requires.order) ∙ short.1, tt)

pub returns-in_ok-push-in-At : goal.returns-in_ok-push-in-At
returns-in_ok-push-in-At c =
    let e = text-at c.args.held.now c.args.piece.now c.args.i c.in-At.start c.args.place c.in-At.is in
    let le : c.in-At.start ≤ c.args.i = rw c.in-At.is at c.requires.within in
    let n = started_length c.args.piece.now c.in-At.start c.args.i c.args.end le c.requires.order c.requires.there in
    let long = too_long-at _ _ _ e c.requires.was c.requires.clear (omega arith) in
    (pushed _ _ _ _ c.in_ok-push-in-At.ensures.items long.0, long.1, tt)

pub returns-else-end-start-gt-LIMIT : goal.returns-else-end-start-gt-LIMIT
returns-else-end-start-gt-LIMIT c =
    let e = text-at c.args.held.now c.args.piece.now c.args.i c.in-At.start c.args.place c.in-At.is in
    let le : c.in-At.start ≤ c.args.i = rw c.in-At.is at c.requires.within in
    let n = started_length c.args.piece.now c.in-At.start c.args.i c.args.end le c.requires.order c.requires.there in
    let short = goes_on-at _ _ _ e c.requires.was c.requires.clear (omega arith) in
    (nothing_new _ _ short.0, ap (λ (r : List ℕ). 60 ∷ r) (started_more c.args.piece.now c.in-At.start c.args.i c.args.end le c.requires.order c.requires.there) ∙ short.1, omega arith)
