use Rattle.std.proofs.Common.{sym, ap, ◌∙◌}
use Rattle.std.specs.Sync.Mutex.{mutex_guard_value}
use Rattle.can_station.specs.Held.{Held}
use Rattle.can_station.specs.Waits.{work_wake}
use Rattle.can_station.proofs.station.Station.wait_work.Goals as goal

pub returns : goal.returns
returns g c = (
  mutex_guard_value c.own-state.result,
  c.own-state.ensures.state,
  ap (λ (h : Held g.row.F.Denot). work_wake h) (sym c.deref.ensures) ∙ sym c.work_wake.ensures ∙ c.in-Some.is,
)
