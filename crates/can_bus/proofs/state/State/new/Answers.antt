use Rattle.can_bus.proofs.Starting.{started}
use Rattle.can_bus.proofs.state.State.new.Goals as goal

pub returns : goal.returns
returns g c = started c.args.config _ _ _ _ _ c.in_ok-interfaces.ensures.made c.new.ensures c.zero.ensures c.new-2.ensures c.in_ok-sockets.ensures.items
