use Rattle.can_hub.specs.Buses.{NoneNamed}
use Rattle.can_hub.proofs.buses.Buses.find_bytes.Given as goal

abbrev pub invariant-loop-bus : goal.invariant-loop-bus
invariant-loop-bus g l = NoneNamed l.bus l.self l.name
