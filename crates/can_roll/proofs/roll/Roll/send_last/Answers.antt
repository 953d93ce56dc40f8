use Rattle.std.proofs.Common.{◌<◌, length, sym, subst}
use Rattle.can_roll.specs.Seen.{RollSeen}
use Rattle.can_roll.proofs.Steps.{sends_as, at_table}
use Rattle.can_roll.proofs.roll.Roll.send_last.Goals as goal

pub split_seat-requires : goal.split_seat-requires
split_seat-requires g c =
    let i = c.self.invariant in
    let at = at_table _ _ _ i.0 in
    let some_in = subst (λ (v : RollSeen). 0 < length v.called) (sym c.self.view_is) c.requires in
    (at.0, at.1, sends_as _ c.self.inside.seat.me _ _ some_in i.1.0)
