use Rattle.std.proofs.Common.{◌≤◌, ◌+◌, ℕ, ◌∷◌, [], List, refl, ap, ◌∙◌, arith}
use Rattle.can_proto.specs.declared.message.Incoming.TheVariants.{Message}
use Rattle.can_proto.specs.declared.scanning.RunStart.TheVariants.{Outside, At}
use Rattle.can_proto.proofs.Pieces.{close_mark}
use Rattle.can_proto.proofs.Steps.{slice_is, opens-given, opens-kept, closes-at, text-carried, text-at, text-outside, nothing_new, pushed, reads-mark}
use Rattle.can_proto.proofs.scanning.at_mark.Goals as goal

pub returns-then-piece-i-eq60 : goal.returns-then-piece-i-eq60
returns-then-piece-i-eq60 c =
    reads-mark c.args.held.now c.args.piece.now c.args.i c.args.place (At (c.args.i + 1)) _ _ c.requires.there
    (opens-given _ _ _ c.if-piece-i-eq60.true c.requires.was) (opens-kept c.args.piece.now _ c.args.i _ c.requires.there c.if-piece-i-eq60.true c.requires.was) (omega arith)

pub returns-in-Outside : goal.returns-in-Outside
returns-in-Outside c =
    let e = text-outside c.args.held.now c.args.piece.now c.args.i c.args.place c.in-Outside.is in
    let closes = close_mark _ c.requires.mark c.if-piece-i-eq60.false in
    reads-mark c.args.held.now c.args.piece.now c.args.i c.args.place Outside _ _ c.requires.there (nothing_new _ _ (rw (e, closes) refl)) (rw (e, closes) refl) (tt {0})

pub returns-in_ok-push_message-in-Carried : goal.returns-in_ok-push_message-in-Carried
returns-in_ok-push_message-in-Carried c =
    let e = text-carried c.args.held.now c.args.piece.now c.args.i c.args.place c.in-Carried.is in
    let closed = closes-at _ _ _ e c.requires.was (close_mark _ c.requires.mark c.if-piece-i-eq60.false) in
    reads-mark c.args.held.now c.args.piece.now c.args.i c.args.place Outside _ _ c.requires.there (pushed _ _ _ _ c.in_ok-push_message-in-Carried.ensures closed.0) closed.1 (tt {0})

pub returns-in_ok-push_message-in-At : goal.returns-in_ok-push_message-in-At
returns-in_ok-push_message-in-At c =
    let le : c.in-At.start ≤ c.args.i = rw c.in-At.is at c.requires.within in
    let e = text-at c.args.held.now c.args.piece.now c.args.i c.in-At.start c.args.place c.in-At.is in
    let closed = closes-at _ _ _ e c.requires.was (close_mark _ c.requires.mark c.if-piece-i-eq60.false) in
    let message = closed.0 ∙ ap (λ (r : List ℕ). Message r ∷ []) (slice_is c.args.piece.now c.in-At.start c.args.i le) in
    reads-mark c.args.held.now c.args.piece.now c.args.i c.args.place Outside _ _ c.requires.there (pushed _ _ _ _ c.in_ok-push_message-in-At.ensures message) closed.1 (tt {0})
