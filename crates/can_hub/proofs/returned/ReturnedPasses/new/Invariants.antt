use Rattle.std.proofs.Common.{◌≡◌, length}
use Rattle.can_hub.specs.Returning.{AllEmpty}
use Rattle.can_hub.proofs.returned.ReturnedPasses.new.Given as goal

abbrev pub invariant-loop-bus : goal.invariant-loop-bus
invariant-loop-bus g l = (length l.lists.items ≡ l.bus) × AllEmpty l.lists.items
