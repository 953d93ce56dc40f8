use Rattle.std.proofs.Common.{◌≡◌, ◌&&◌, Bool, true, false, refl, sym, ◌∙◌, ap}
use Rattle.can_frame.specs.Frames.{CanFrame}
use Rattle.can_frame.specs.FrameFields.{frame_of, fields_of, fields-frame_of, IsFrame}
use Rattle.can_frame.specs.contracts.frame.KindPartialEq.TheImpl as kinds
use Rattle.can_frame.specs.declared.frame.Frame.TheInside.{Inside}
use Rattle.can_frame.specs.declared.frame.Kind.{Kind}
use Rattle.can_frame.proofs.frame.FramePartialEq.eq.Goals as goal

-- the four comparisons in another order
in_order : (id kind len bytes : Bool) → (((len && id) && kind) && bytes) ≡ (id && (kind && (len && bytes)))
in_order true true true bytes = refl
in_order true true false bytes = refl
in_order true false true bytes = refl
in_order true false false bytes = refl
in_order false kind true bytes = refl
in_order false kind false bytes = refl

joined : (id kind len bytes a b c d : Bool) → a ≡ len → b ≡ (a && id) → c ≡ (b && kind) → d ≡ (c && bytes) → d ≡ (id && (kind && (len && bytes)))
joined id kind len bytes a b c d ea eb ec ed =
    ed ∙ ap (λ (x : Bool). x && bytes) (ec ∙ ap (λ (x : Bool). x && kind) (eb ∙ ap (λ (x : Bool). x && id) ea)) ∙ in_order id kind len bytes

-- the comparison of kinds gives the same result for equal kinds
same_kinds : (f g h k : Kind) → f ≡ h → g ≡ k → kinds.ghosts.eq f g ≡ kinds.ghosts.eq h k
same_kinds f g h k e i = ap (λ (x : Kind). kinds.ghosts.eq x g) e ∙ ap (λ (x : Kind). kinds.ghosts.eq h x) i

kept : (f : Inside) (v : CanFrame) → frame_of f ≡ v → IsFrame f → f ≡ fields_of v
kept f v e h = sym (fields-frame_of f h) ∙ ap fields_of e

pub returns : goal.returns
returns c =
    let one = kept c.t1-1.inside c.args.self.now c.t1-1.view_is c.t1-1.invariant in
    let other = kept c.t2-1.inside c.args.other.now c.t2-1.view_is c.t2-1.invariant in
    let kind = same_kinds c.t1-1.inside.kind c.t2-1.inside.kind (fields_of c.args.self.now).kind (fields_of c.args.other.now).kind (ap (λ (f : Inside). f.kind) one) (ap (λ (f : Inside). f.kind) other) in
    let same = joined _ _ _ _ _ _ _ _ c.eq.ensures c.and_eq.ensures (c.and_eq-2.ensures ∙ ap (λ (x : Bool). c.and_eq.result && x) kind) c.and_eq-3.ensures in
    rw (one, other) at same
