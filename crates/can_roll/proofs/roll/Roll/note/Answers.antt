use Rattle.std.proofs.Common.{◌≡◌, ◌<◌, [], ◌∷◌, length, sym, ap, ◌∙◌, subst}
use Rattle.can_roll.specs.declared.rule.View.TheVariants.{OfSlip}
use Rattle.can_event.specs.Replies.{entry_of}
use Rattle.can_roll.specs.Lists.{row, call_added}
use Rattle.can_roll.specs.Rule.{calls_of, view_in}
use Rattle.can_roll.specs.Seen.{RollSeen, SlipSeen, roll_seen, slip_seen}
use Rattle.can_roll.proofs.Rows.{row_added}
use Rattle.can_roll.proofs.Noting.{once_noted, once_sent, slip_again}
use Rattle.can_roll.proofs.roll.Roll.note.Goals as goal

pub invariant_of-slip : goal.invariant_of-slip
invariant_of-slip g c =
    let old = c.args.self.now in
    let p = c.slip.inside.pass in
    let call = entry_of c.args.event.now c.args.reply.now in
    let calls = call ∷ [] in
    let noted = once_noted old c.recall.new.self c.note_last.new.self p calls c.recall.ensures.roll c.note_last.ensures in
    let views = slip_again old c.note_last.new.self p calls c.send_last.result.views noted c.recall.ensures.below c.send_last.ensures.views in
    let same : old.number ≡ c.slip.inside.number = sym (ap (λ (v : SlipSeen). v.number) c.slip.view_is ∙ c.requires) in (
      c.send_last.ensures.table ∙ ap (λ (v : RollSeen). (g.N.RollName.roll v.number).passes) noted ∙ ap (λ n. (g.N.RollName.roll n).passes) same,
      views ∙ sym (ap (λ vs. OfSlip p (calls_of (view_in vs)) ∷ []) views),
    )

pub returns : goal.returns
returns g c =
    let old = c.args.self.now in
    let p = c.slip.inside.pass in
    let call = entry_of c.args.event.now c.args.reply.now in
    let calls = call ∷ [] in
    let slip : slip_seen c.slip.inside.number p (calls_of (view_in c.slip.inside.badge.views)) ≡ c.args.slip.now = c.slip.view_is in
    let before : row old.lists p ≡ calls_of (view_in c.slip.inside.badge.views) =
    c.recall.ensures.calls ∙ ap (λ b. calls_of (view_in b.views)) c.replace.ensures.value in
    let noted = once_noted old c.recall.new.self c.note_last.new.self p calls c.recall.ensures.roll c.note_last.ensures in
    let sent = once_sent old c.note_last.new.self c.send_last.new.self p calls noted c.send_last.ensures.roll in
    let views = slip_again old c.note_last.new.self p calls c.send_last.result.views noted c.recall.ensures.below c.send_last.ensures.views in
    record {
      roll = sent ∙ ap (λ (v : SlipSeen). roll_seen old.number (call_added old.lists v.pass call) old.called) slip;
      slip = ap (λ vs. slip_seen c.slip.inside.number p (calls_of (view_in vs))) views
          ∙ ap (λ l. slip_seen c.slip.inside.number p (call ∷ l)) before
          ∙ ap (λ (v : SlipSeen). slip_seen v.number v.pass (call ∷ v.calls)) slip;
      below = subst (λ (v : SlipSeen). v.pass < length old.lists) slip c.recall.ensures.below;
      before = ap (λ (v : SlipSeen). row old.lists v.pass) (sym slip) ∙ before ∙ ap (λ (v : SlipSeen). v.calls) slip;
      after = ap (λ (v : SlipSeen). row c.send_last.new.self.lists v.pass) (sym slip)
          ∙ ap (λ (r : RollSeen). row r.lists p) sent
          ∙ row_added old.lists p call c.recall.ensures.below
          ∙ sym (ap (λ vs. calls_of (view_in vs)) views);
    }
