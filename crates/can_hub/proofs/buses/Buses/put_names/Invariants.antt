use Rattle.std.proofs.Common.{◌≡◌, ◌++◌, take}
use Rattle.can_proto.specs.Spelling.{spaced}
use Rattle.can_hub.specs.Buses.{all_names}
use Rattle.can_hub.proofs.buses.Buses.put_names.Given as goal

abbrev pub invariant-loop-network : goal.invariant-loop-network
invariant-loop-network g l = l.text.items ≡ l.fn.text.items ++ spaced (all_names (take l.network-index l.self))
