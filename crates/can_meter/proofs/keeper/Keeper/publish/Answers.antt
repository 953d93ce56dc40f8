use Rattle.std.proofs.Common.{◌<◌, ap, sym, subst}
use Rattle.can_meter.specs.Publications.{newest, published}
use Rattle.can_meter.specs.Readings.{Readings}
use Rattle.can_meter.specs.Rule.{seat_lists}
use Rattle.can_meter.proofs.Seated.{seated_in, stores_at}
use Rattle.can_meter.proofs.keeper.Keeper.publish.Goals as goal

pub store-requires : goal.store-requires
store-requires g c =
    let me = c.self.inside.seat.me in
    let seated = seated_in _ _ _ me _ _ _ _ (ap (λ t. t.shared.table_id) c.deref.ensures) (ap (λ t. t.shared.key) c.deref.ensures) c.self.invariant in
    stores_at _ _ _ me _ _ _ c.args.iface _ (seat_lists me.0) (record { at = c.args.at; counters = c.args.counters }) seated
    (subst (λ (v : Readings). c.args.iface < v.ifaces) (sym c.self.view_is) c.requires.iface)
    c.word-word.ensures.word
    c.word-word.ensures.fits
    (subst (λ (v : Readings). (newest (published v.lists c.args.iface)).at < c.args.at) (sym c.self.view_is) c.requires.later)
