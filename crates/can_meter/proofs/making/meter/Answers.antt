use Rattle.can_meter.proofs.Steps.{opens}
use Rattle.can_meter.proofs.making.meter.Goals as goal

pub split_seat-gauge_seat-requires : goal.split_seat-gauge_seat-requires
split_seat-gauge_seat-requires g c =
    let seated = c.blank.invariant in
    (seated.seat_is, seated.not_empty, opens c.blank.inside.table.shared.key c.blank.inside.seat.id c.blank.inside.seat.me.0)
