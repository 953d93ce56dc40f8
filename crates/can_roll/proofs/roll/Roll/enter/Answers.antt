use Rattle.can_roll.proofs.Steps.{enters_as, at_table}
use Rattle.can_roll.proofs.roll.Roll.enter.Goals as goal

pub split_seat-seat-requires : goal.split_seat-seat-requires
split_seat-seat-requires g c =
    let i = c.self.invariant in
    let at = at_table _ _ _ i.0 in
    (at.0, at.1, enters_as _ c.self.inside.seat.me _ _ i.1.0)
