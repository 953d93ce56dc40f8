use Rattle.can_bus.proofs.Reading.{found-at, gave}
use Rattle.can_bus.proofs.state.State.receive_into.Goals as goal

pub returns-clause-receives : goal.returns-clause-receives
returns-clause-receives g c = gave _ _ _ _ _ _ _ c.self.view_is (found-at _ _ _ _ _ c.deref.ensures.value c.in-Some.ensures.within c.in-Some.ensures.found c.index_mut-socket.ensures.value) c.receive_into.ensures.taken c.receive_into.ensures.rest
