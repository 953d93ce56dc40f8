use Rattle.std.proofs.Common.{refl}
use Rattle.can_bus.specs.Sockets.{iface_of}
use Rattle.can_bus.proofs.OwnFacts.{own-done, own-single}
use Rattle.can_bus.proofs.laws.own_copies_are_single.Goals as goal

pub returns-clause-done : goal.returns-clause-done
returns-clause-done c past legal s = own-done c.args.config past legal (iface_of past s) s refl

pub returns-clause-single : goal.returns-clause-single
returns-clause-single c past legal s = own-single c.args.config past legal (iface_of past s) s refl
