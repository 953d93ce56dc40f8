use Rattle.std.proofs.Common.{◌≡◌, ◌++◌, take, drop}
use Rattle.can_bus.specs.Changes.{ticked}
use Rattle.can_bus.proofs.countdown.Countdown.tick.Given as goal

abbrev pub invariant-loop-left : goal.invariant-loop-left
invariant-loop-left l = l.left-items ≡ ticked (take l.left-index l.fn.self) ++ drop l.left-index l.fn.self
