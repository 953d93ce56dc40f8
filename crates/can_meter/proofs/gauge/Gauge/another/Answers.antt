use Rattle.std.proofs.Common.{ap}
use Rattle.can_meter.specs.Rule.{seat_lists}
use Rattle.can_meter.proofs.Seated.{seated_in, copies_at}
use Rattle.can_meter.proofs.gauge.Gauge.another.Goals as goal

pub split_seat-seat-requires : goal.split_seat-seat-requires
split_seat-seat-requires g c =
    let me = c.self.inside.seat.me in
    let seated = seated_in _ _ _ me _ _ _ _ (ap (λ t. t.shared.table_id) c.deref.ensures) (ap (λ t. t.shared.key) c.deref.ensures) c.self.invariant in
    copies_at _ _ _ me _ _ (seat_lists me.0) seated
