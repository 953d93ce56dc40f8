use Rattle.can_bus.proofs.Reading.{found-at, altered}
use Rattle.can_bus.proofs.state.State.set_option.Goals as goal

pub returns : goal.returns
returns g c = altered _ _ _ _ _ _ _ c.self.view_is (found-at _ _ _ _ _ c.deref.ensures.value c.in-Some.ensures.within c.in-Some.ensures.found c.index_mut-socket.ensures.value) c.set_option.ensures
