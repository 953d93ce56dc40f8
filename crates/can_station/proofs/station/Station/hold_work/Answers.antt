use Rattle.std.proofs.Common.{◌≡◌, Bool, true, false, if◌then◌else◌, refl, sym, ap, ◌∙◌, true≢false, of_calls}
use Rattle.std.specs.Prelude.{is_none, Some}
use Rattle.std.specs.Sync.Mutex.{mutex_guard_value}
use Rattle.can_station.specs.Held.{Held}
use Rattle.can_station.specs.Waits.{stopped_wake, has_work, work_wake}
use Rattle.can_station.specs.declared.waits.WakeReason.TheVariants as wake
use Rattle.can_station.proofs.station.Station.hold_work.Goals as goal

-- If a wait for work ends without work, the station was stopped.
ended : (work stopped : Bool) → is_none (if work then Some wake.Ready else stopped_wake stopped) ≡ false → work ≡ false → stopped ≡ true
ended true stopped some none = absurd (true≢false none)
ended false true some none = refl
ended false false some none = absurd (true≢false some)

pub returns-then-not-has_work-clause-none : goal.returns-then-not-has_work-clause-none
returns-then-not-has_work-clause-none g c =
    let held : Held g.row.F.Denot = mutex_guard_value c.own-state.result in
    let woken : is_none (work_wake (mutex_guard_value c.wait_while-state.result)) ≡ false = search of_calls in
    let some : is_none (work_wake held) ≡ false = ap (λ (h : Held g.row.F.Denot). is_none (work_wake h)) c.own-state.ensures.same ∙ woken in
    let idle : has_work held.journal ≡ false = ap (λ (h : Held g.row.F.Denot). has_work h.journal) (sym c.deref.ensures) ∙ sym c.if-not-has_work.ensures in
    (held, c.own-state.ensures.state, (idle, ended (has_work held.journal) held.stopped some idle))
