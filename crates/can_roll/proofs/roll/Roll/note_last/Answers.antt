use Rattle.std.proofs.Common.{◌<◌, [], length, sym, ap, ◌∙◌, subst}
use Rattle.can_roll.specs.declared.rule.View.TheVariants.{OfRoll}
use Rattle.can_roll.specs.Lists.{last_pass}
use Rattle.can_roll.specs.Rule.{lists_of, called_of}
use Rattle.can_roll.specs.Seen.{RollSeen}
use Rattle.can_roll.proofs.Rows.{length-added_all}
use Rattle.can_roll.proofs.Steps.{notes_as, then_noted, at_table}
use Rattle.can_roll.proofs.roll.Roll.note_last.Goals as goal

pub load-requires : goal.load-requires
load-requires g c =
    let i = c.self.invariant in
    let at = at_table _ _ _ i.0 in
    let some_in = subst (λ (v : RollSeen). 0 < length v.called) (sym c.self.view_is) c.requires.some_in in
    (at.0, at.1, notes_as _ _ _ c.self.inside.seat.me _ _ some_in i.1.0)

pub invariant_of-self : goal.invariant_of-self
invariant_of-self g c =
    let i = c.self.invariant in
    let lists = lists_of c.self.inside.seat.me.0 in
    let called = called_of c.self.inside.seat.me.0 in
    let new = then_noted g.C.Says.said c.load.new.seat.me c.self.inside.seat.me lists called i.1.0 c.load.ensures.2 in (
      (i.0.0, c.load.ensures.0 ∙ i.0.1, i.0.2),
      (
        new ∙ (λ k. (OfRoll (lists_of (sym new k).0) (called_of (sym new k).0) [], [])),
        ap (λ m. length (lists_of m.0)) new ∙ length-added_all lists (last_pass called) g.C.Says.said ∙ i.1.1,
      ),
    )
