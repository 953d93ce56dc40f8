use Rattle.std.proofs.Common.{◌≡◌, ◌++◌, ℕ, List, ◌-◌, length}
use Rattle.can_dialog.specs.Deliveries.{AreGiven}
use Rattle.can_session.specs.BusSteps.{BusStep}
use Rattle.can_session.proofs.turns.drain.Given as goal

abbrev pub invariant-loop : goal.invariant-loop
invariant-loop l =
    (items : ℕ) × (text : List ℕ) × AreGiven BusStep items l.fn.session.dialog.stage l.fn.port text l.port
    × (l.said.items ≡ l.fn.said.items ++ text) × (l.session ≡ l.fn.session)

abbrev pub decreases-loop : goal.decreases-loop
decreases-loop l = l.port.journal.config.limit - length l.port.journal.history
