use Rattle.std.proofs.Common.{List, ap, ◌∙◌}
use Rattle.can_filter.specs.Filters.{CanFilter}
use Rattle.can_bus.proofs.Reading.{found-at, altered}
use Rattle.can_bus.proofs.state.State.set_filters.Goals as goal

pub returns : goal.returns
returns g c =
    altered _ _ _ _ _ _ _ c.self.view_is (found-at _ _ _ _ _ c.deref.ensures.value c.in-Some.ensures.within c.in-Some.ensures.found c.index_mut-socket.ensures.value)
    (c.set_filters.ensures ∙ ap (λ (fs : List CanFilter). record c.index_mut-socket.result.now { filters = fs }) c.in-Ok.ensures)
