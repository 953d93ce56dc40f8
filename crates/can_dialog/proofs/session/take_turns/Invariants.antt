use Rattle.std.proofs.Common.{◌≡◌, Bool, List, ◌+◌, ◌≤◌, ◌*◌, length, take, vec_capacity}
use Rattle.can_dialog.specs.Sessions.{Turns}
use Rattle.can_dialog.proofs.session.take_turns.Given as goal

abbrev pub invariant-loop-item : goal.invariant-loop-item
invariant-loop-item g l =
    ((forgotten : List Bool) × Turns g.P.Port.step l.moment l.fn.dialog forgotten (take l.item-index l.items) l.fn.port l.port l.said.items l.dialog)
    × (l.left + l.item-index ≡ length l.items) × (length l.said.items + l.left * 256 ≤ vec_capacity l.said)
