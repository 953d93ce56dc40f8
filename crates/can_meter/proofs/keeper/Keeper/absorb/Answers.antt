use Rattle.std.proofs.Common.{◌∙◌, [], ap, sym, subst}
use Rattle.can_meter.specs.declared.rule.View.TheVariants.{Keeps, Watches}
use Rattle.can_meter.specs.Publications.{AreEndsOf}
use Rattle.can_meter.specs.Readings.{Readings}
use Rattle.can_meter.specs.Rule.{seat_lists}
use Rattle.can_meter.proofs.Seated.{seated_in, takes_in_at, seated_taken, keeper_returns_at, keeper_learns}
use Rattle.can_meter.proofs.keeper.Keeper.absorb.Goals as goal

pub join_seat-requires : goal.join_seat-requires
join_seat-requires g c =
    let me = c.self.inside.seat.me in
    let other = c.gauge.inside.seat.me in
    let number = ap (λ (v : Readings). v.number) c.gauge.view_is ∙ c.requires ∙ sym (ap (λ (v : Readings). v.number) c.self.view_is) in
    let seated = seated_in _ _ _ me _ _ _ _ (ap (λ t. t.shared.table_id) c.deref.ensures) (ap (λ t. t.shared.key) c.deref.ensures) c.self.invariant in
    takes_in_at _ _ _ me _ _ _ (Keeps (seat_lists me.0) []) (Watches (seat_lists other.0) []) _ _ _ other _ seated c.gauge.invariant (ap g.N.MeterName.meter number)

pub load-requires : goal.load-requires
load-requires g c =
    let me = c.self.inside.seat.me in
    let other = c.gauge.inside.seat.me in
    let after = c.join_seat.new.seat.me in
    let taken = seated_taken _ _ _ me _ (Keeps (seat_lists me.0) []) (Watches (seat_lists other.0) []) _ _ _ other _ _ after c.self.invariant c.gauge.invariant c.join_seat.ensures.0 c.join_seat.ensures.2 in
    let seated = seated_in _ _ _ after _ _ _ _ (ap (λ t. t.shared.table_id) c.deref-2.ensures) (ap (λ t. t.shared.key) c.deref-2.ensures) taken in
    keeper_returns_at _ _ _ after _ _ _ (seat_lists me.0) (seat_lists other.0) seated

pub returns-clause-seen : goal.returns-clause-seen
returns-clause-seen g c =
    let me = c.self.inside.seat.me in
    let other = c.gauge.inside.seat.me in
    let learned =
    keeper_learns me other c.join_seat.new.seat.me (seat_lists me.0) (seat_lists other.0) c.self.invariant.me_is c.gauge.invariant.me_is c.join_seat.ensures.2 c.load.ensures.2.2 in
    subst (λ (v : Readings). AreEndsOf c.args.gauge.lists v.lists) c.self.view_is (subst (λ (v : Readings). AreEndsOf v.lists (seat_lists me.0)) c.gauge.view_is learned)
