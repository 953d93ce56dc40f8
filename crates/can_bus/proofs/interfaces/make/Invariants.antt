use Rattle.std.proofs.Common.{◌≡◌, replicate}
use Rattle.can_bus.specs.State.{InterfaceState, fresh_interface}
use Rattle.can_bus.proofs.interfaces.make.Given as goal

abbrev pub invariant-loop : goal.invariant-loop
invariant-loop g l = l.interfaces.items ≡ replicate {A = InterfaceState} l.counter (fresh_interface l.capacity)
