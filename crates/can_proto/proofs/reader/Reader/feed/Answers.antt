use Rattle.std.proofs.Common.{◌≡◌, ◌-◌, ◌≤◌, ◌++◌, ◌∷◌, List, ℕ, take, drop, length, ap, ◌∙◌, arith, length-append}
use Rattle.can_proto.specs.Messages.{kept_of}
use Rattle.can_proto.specs.Scanning.{text_kept}
use Rattle.can_proto.proofs.Steps.{after-carried, after-at, after-outside, short_run, kept_by}
use Rattle.can_proto.proofs.reader.Reader.feed.Goals as goal
use Rattle.can_proto.proofs.reader.Reader.feed.Goals.{in-Outside, in-Carried, in-At}

pub put-requires : goal.put-requires
put-requires c =
    let text = text_kept c.self.inside.is_open c.deref.result.now ++ c.args.piece.now in
    let now = after-carried c.self.inside.inside.items c.deref.result.now c.args.piece.now text c.in_ok-out.place c.deref.ensures.value c.in-Carried.is c.in_ok-out.ensures.keeps in
    let short = short_run (c.self.inside.inside.items ++ c.args.piece.now) (kept_by (60 ∷ (c.self.inside.inside.items ++ c.args.piece.now)) text now) in
    omega (arith, short, length-append c.self.inside.inside.items c.args.piece.now, c.self.invariant.1)

pub invariant_of-self-in-Carried : goal.invariant_of-self-in-Carried
invariant_of-self-in-Carried c =
    let text = text_kept c.self.inside.is_open c.deref.result.now ++ c.args.piece.now in
    let now = after-carried c.self.inside.inside.items c.deref.result.now c.args.piece.now text c.in_ok-out.place c.deref.ensures.value c.in-Carried.is c.in_ok-out.ensures.keeps in
    (rw c.put.ensures.items (kept_by (60 ∷ (c.self.inside.inside.items ++ c.args.piece.now)) text now), omega (arith, c.put.ensures.room, c.self.invariant.1))

pub put-requires-in-At : goal.put-requires-in-At
put-requires-in-At c =
    let text = text_kept c.self.inside.is_open c.deref.result.now ++ c.args.piece.now in
    let le : c.in-At.start ≤ length c.args.piece.now = rw c.in-At.is at c.in_ok-out.ensures.within in
    let now = after-at c.deref.result.now c.args.piece.now text c.in-At.start c.in_ok-out.place c.in-At.is le c.in_ok-out.ensures.keeps in
    let run = take (length c.args.piece.now - c.in-At.start) (drop c.in-At.start c.args.piece.now) in
    let short = short_run run (kept_by (60 ∷ run) text now) in
    let none : length c.clear.new.self.items ≡ 0 = ap (λ (x : List ℕ). length x) c.clear.ensures.items in
    omega (arith, short, none, c.clear.ensures.capacity, c.self.invariant.1)

pub invariant_of-self-in-At : goal.invariant_of-self-in-At
invariant_of-self-in-At c =
    let text = text_kept c.self.inside.is_open c.deref.result.now ++ c.args.piece.now in
    let le : c.in-At.start ≤ length c.args.piece.now = rw c.in-At.is at c.in_ok-out.ensures.within in
    let now = after-at c.deref.result.now c.args.piece.now text c.in-At.start c.in_ok-out.place c.in-At.is le c.in_ok-out.ensures.keeps in
    let run = take (length c.args.piece.now - c.in-At.start) (drop c.in-At.start c.args.piece.now) in
    let items : c.put-in-At.new.inside.items ≡ run = c.put-in-At.ensures.items ∙ ap (λ (x : List ℕ). x ++ run) c.clear.ensures.items in
    (rw items (kept_by (60 ∷ run) text now), omega (arith, c.put-in-At.ensures.room, c.clear.ensures.capacity, c.self.invariant.1))

pub returns-clause-keeps : goal.returns-clause-keeps
returns-clause-keeps c =
    let text = text_kept c.self.inside.is_open c.deref.result.now ++ c.args.piece.now in
    let same : text ≡ c.args.self.now ++ c.args.piece.now = ap (λ (h : List ℕ). text_kept c.self.inside.is_open h ++ c.args.piece.now) c.deref.ensures.value ∙ ap (λ (t : List ℕ). t ++ c.args.piece.now) c.self.view_is in
    elim c.match-place.branch [
      | in-Outside w ↦ w.self-is ∙ after-outside c.deref.result.now c.args.piece.now text c.in_ok-out.place w.in-Outside.is c.in_ok-out.ensures.keeps ∙ ap kept_of same
      | in-Carried w ↦
          w.self-is ∙ ap (λ (x : List ℕ). 60 ∷ x) w.put.ensures.items
          ∙ after-carried c.self.inside.inside.items c.deref.result.now c.args.piece.now text c.in_ok-out.place c.deref.ensures.value w.in-Carried.is c.in_ok-out.ensures.keeps
          ∙ ap kept_of same
      | in-At w ↦
          let le : w.in-At.start ≤ length c.args.piece.now = rw w.in-At.is at c.in_ok-out.ensures.within in
          let now = after-at c.deref.result.now c.args.piece.now text w.in-At.start c.in_ok-out.place w.in-At.is le c.in_ok-out.ensures.keeps in
          let run = take (length c.args.piece.now - w.in-At.start) (drop w.in-At.start c.args.piece.now) in
          let items : w.put-in-At.new.inside.items ≡ run = w.put-in-At.ensures.items ∙ ap (λ (x : List ℕ). x ++ run) w.clear.ensures.items in
          w.self-is ∙ ap (λ (x : List ℕ). 60 ∷ x) items ∙ now ∙ ap kept_of same
    ]
