use Rattle.std.proofs.Common.{◌≡◌, Bool, false, Some, None, IsTrue, sym, subst, ◌∙◌}
use Rattle.can_frame.specs.declared.item.Item.{Item}
use Rattle.can_frame.specs.FrameText.{IsSpelling}
use Rattle.can_frame.proofs.frame_texts.read_upper.Goals as goal

pub returns-in_err-item-clause-only : goal.returns-in_err-item-clause-only
returns-in_err-item-clause-only c i good spells = absurd (nothing i (sym c.in_err-item.was ∙ c.guess_item.ensures.only i good spells))
  where
    nothing : (x : Item) → None ≡ Some x → ⊥
    nothing x e = cc e

pub returns-then-spells-clause-found : goal.returns-then-spells-clause-found
returns-then-spells-clause-found c = (c.in_ok-item.ensures.good, c.spells.ensures.0 c.if-spells.true)

pub returns-then-spells-clause-only : goal.returns-then-spells-clause-only
returns-then-spells-clause-only c i good spells = sym c.in_ok-item.was ∙ c.guess_item.ensures.only i good spells

pub returns-else-spells-clause-only : goal.returns-else-spells-clause-only
returns-else-spells-clause-only c i good spells =
    let same : Some c.in_ok-item.item ≡ Some i = sym c.in_ok-item.was ∙ c.guess_item.ensures.only i good spells in
    absurd (never c.spells.result c.if-spells.false (c.spells.ensures.1 (subst (IsSpelling c.args.text.now) (sym (is_one c.in_ok-item.item i same)) spells)))
  where
    is_one : (x y : Item) → Some x ≡ Some y → x ≡ y
    is_one x y e = cc

    never : (b : Bool) → b ≡ false → IsTrue b → ⊥
    never b e h = cc
