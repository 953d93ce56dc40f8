use Rattle.can_bus.proofs.Reading.{found-at, removed}
use Rattle.can_bus.proofs.state.State.close.Goals as goal

pub returns : goal.returns
returns g c = removed _ _ _ _ _ _ _ c.self.view_is (found-at _ _ _ _ _ c.deref.ensures.value c.in-Some.ensures.within c.in-Some.ensures.found c.remove-socket.ensures.value) c.counts.ensures c.remove-socket.ensures.items
