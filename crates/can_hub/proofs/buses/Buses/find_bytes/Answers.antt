use Rattle.std.proofs.Common.{rules}
use Rattle.can_hub.proofs.Places.{none_next}
use Rattle.can_hub.proofs.buses.Buses.find_bytes.Goals as goal

pub loop-bus-preserved : goal.loop-bus-preserved
loop-bus-preserved g c = none_next c.loop-bus.bus c.args.self.now c.args.name.now c.interface.result c.loop-bus.invariant c.interface.ensures (search (rules, c.in_default))
