use Rattle.std.proofs.Common.{◌≡◌, ◌<◌, [], ◌∷◌, ◌++◌, length, sym, ap, ◌∙◌, subst}
use Rattle.can_roll.specs.Lists.{row, NotIn}
use Rattle.can_roll.specs.Rule.{lists_of, called_of, calls_of, view_in}
use Rattle.can_roll.specs.Seen.{RollSeen, SlipSeen, roll_seen, slip_seen}
use Rattle.can_roll.proofs.Passes.{some_at_end}
use Rattle.can_roll.proofs.Steps.{calls_in_as, returns_as, seated, joined, then_returned, at_table}
use Rattle.can_roll.proofs.roll.Roll.recall.Goals as goal

pub join_seat-requires : goal.join_seat-requires
join_seat-requires g c =
    let i = c.self.invariant in
    let j = c.slip.invariant in
    let e = c.into_seat.ensures in
    let at = at_table _ _ _ i.0 in
    let same : c.slip.inside.number ≡ c.self.inside.number =
    ap (λ (v : SlipSeen). v.number) c.slip.view_is ∙ c.requires ∙ sym (ap (λ (v : RollSeen). v.number) c.self.view_is) in
    let you = seated c.slip.inside.badge.views c.into_seat.result.me c.slip.inside.pass _ j.1 e.2 e.3 in (
      at.0,
      e.0 ∙ j.0 ∙ ap (λ n. (g.N.RollName.roll n).passes) same ∙ sym i.0.0,
      e.3,
      at.1,
      calls_in_as _ _ c.self.inside.seat.me c.into_seat.result.me _ _ _ _ i.1.0 you,
    )

pub load-requires : goal.load-requires
load-requires g c =
    let i = c.self.invariant in
    let j = c.slip.invariant in
    let e = c.into_seat.ensures in
    let at = at_table _ _ _ i.0 in
    let called = called_of c.self.inside.seat.me.0 in
    let p = c.slip.inside.pass in
    let you = seated c.slip.inside.badge.views c.into_seat.result.me p _ j.1 e.2 e.3 in
    let me = joined c.join_seat.new.seat.me c.self.inside.seat.me c.into_seat.result.me _ called p _ c.join_seat.ensures.2 i.1.0 you in
    (c.join_seat.ensures.0 ∙ at.0, at.1, returns_as _ _ c.join_seat.new.seat.me _ _ _ (some_at_end called p) me)

pub returns : goal.returns
returns g c =
    let i = c.self.invariant in
    let j = c.slip.invariant in
    let e = c.into_seat.ensures in
    let lists = lists_of c.self.inside.seat.me.0 in
    let called = called_of c.self.inside.seat.me.0 in
    let p = c.slip.inside.pass in
    let calls = calls_of (view_in c.slip.inside.badge.views) in
    let roll : roll_seen c.self.inside.number lists called ≡ c.args.self.now = c.self.view_is in
    let slip : slip_seen c.slip.inside.number p calls ≡ c.args.slip = c.slip.view_is in
    let you = seated c.slip.inside.badge.views c.into_seat.result.me p calls j.1 e.2 e.3 in
    let me = joined c.join_seat.new.seat.me c.self.inside.seat.me c.into_seat.result.me lists called p calls c.join_seat.ensures.2 i.1.0 you in
    let returned = then_returned c.load.new.seat.me c.join_seat.new.seat.me lists called p calls me c.load.ensures.2 in
    record {
      roll = ap (λ m. roll_seen c.self.inside.number (lists_of m.0) (called_of m.0)) returned.0
          ∙ (λ k. roll_seen (roll k).number (roll k).lists ((roll k).called ++ (slip k).pass ∷ []));
      calls = subst (λ (x : RollSeen × SlipSeen). row x.0.lists x.1.pass ≡ x.1.calls) (λ k. (roll k, slip k)) returned.1;
      once = subst (λ (x : RollSeen × SlipSeen). NotIn x.1.pass x.0.called) (λ k. (roll k, slip k)) returned.3;
      below = subst (λ (x : RollSeen × SlipSeen). x.1.pass < length x.0.lists) (λ k. (roll k, slip k)) returned.2;
    }
