use Rattle.std.proofs.Common.{◌∙◌, [], ap, sym, subst}
use Rattle.can_meter.specs.declared.rule.View.TheVariants.{Watches}
use Rattle.can_meter.specs.Publications.{AreEndsOf}
use Rattle.can_meter.specs.Readings.{Readings}
use Rattle.can_meter.specs.Rule.{seat_lists}
use Rattle.can_meter.proofs.Seated.{seated_in, takes_in_at, seated_taken, gauge_returns_at, gauge_learns}
use Rattle.can_meter.proofs.gauge.Gauge.join.Goals as goal

pub join_seat-requires : goal.join_seat-requires
join_seat-requires g c =
    let me = c.self.inside.seat.me in
    let other = c.other.inside.seat.me in
    let number = ap (λ (v : Readings). v.number) c.other.view_is ∙ c.requires ∙ sym (ap (λ (v : Readings). v.number) c.self.view_is) in
    let seated = seated_in _ _ _ me _ _ _ _ (ap (λ t. t.shared.table_id) c.deref.ensures) (ap (λ t. t.shared.key) c.deref.ensures) c.self.invariant in
    takes_in_at _ _ _ me _ _ _ (Watches (seat_lists me.0) []) (Watches (seat_lists other.0) []) _ _ _ other _ seated c.other.invariant (ap g.N.MeterName.meter number)

pub load-requires : goal.load-requires
load-requires g c =
    let me = c.self.inside.seat.me in
    let other = c.other.inside.seat.me in
    let after = c.join_seat.new.seat.me in
    let v = Watches (seat_lists me.0) [] in
    let w = Watches (seat_lists other.0) [] in
    let taken = seated_taken _ _ _ me _ v w _ _ _ other _ _ after c.self.invariant c.other.invariant c.join_seat.ensures.0 c.join_seat.ensures.2 in
    let seated = seated_in _ _ _ after _ _ _ _ (ap (λ t. t.shared.table_id) c.deref-2.ensures) (ap (λ t. t.shared.key) c.deref-2.ensures) taken in
    gauge_returns_at _ _ _ after _ _ _ (seat_lists me.0) (seat_lists other.0) seated

pub returns-clause-this : goal.returns-clause-this
returns-clause-this g c =
    let me = c.self.inside.seat.me in
    let other = c.other.inside.seat.me in
    let after = c.load.new.seat.me in
    let returned = c.load.ensures.2 in
    let learned =
    gauge_learns me other c.join_seat.new.seat.me after (seat_lists me.0) (seat_lists other.0) c.self.invariant.me_is c.other.invariant.me_is c.join_seat.ensures.2 returned.0 returned.2 in
    subst (λ (v : Readings). AreEndsOf v.lists (seat_lists after.0)) c.self.view_is learned.0

pub returns-clause-that : goal.returns-clause-that
returns-clause-that g c =
    let me = c.self.inside.seat.me in
    let other = c.other.inside.seat.me in
    let after = c.load.new.seat.me in
    let returned = c.load.ensures.2 in
    let learned =
    gauge_learns me other c.join_seat.new.seat.me after (seat_lists me.0) (seat_lists other.0) c.self.invariant.me_is c.other.invariant.me_is c.join_seat.ensures.2 returned.0 returned.2 in
    subst (λ (v : Readings). AreEndsOf v.lists (seat_lists after.0)) c.other.view_is learned.1
