use Rattle.std.proofs.Common.{◌≡◌, take, filter}
use Rattle.can_bus.specs.Copies.{is_from}
use Rattle.can_audit.proofs.queues.projected.Given as goal

abbrev pub invariant-loop-received : goal.invariant-loop-received
invariant-loop-received l = l.of_iface.items ≡ filter (is_from l.iface) (take l.received-index l.received-items)
