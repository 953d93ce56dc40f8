use Rattle.std.proofs.Common.{sym, ap, ◌∙◌}
use Rattle.std.specs.Sync.Mutex.{mutex_guard_value}
use Rattle.can_station.specs.Held.{Held}
use Rattle.can_station.specs.Waits.{frame_wake, items_waiting_at}
use Rattle.can_station.proofs.station.Station.wait_items.Goals as goal

pub returns : goal.returns
returns g c =
    let woken = ap (λ (h : Held g.row.F.Denot). frame_wake h c.args.socket.0) (sym c.deref.ensures) ∙ sym c.frame_wake.ensures ∙ c.in-Some.is in
    let waiting = c.waiting.ensures ∙ ap (λ (h : Held g.row.F.Denot). items_waiting_at h.journal c.args.socket.0) c.deref-2.ensures in
    (mutex_guard_value c.own-state.result, c.own-state.ensures.state, (woken, waiting))
