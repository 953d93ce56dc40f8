use Rattle.std.proofs.Common.{◌≡◌, ℕ, Bool, false, MatchBool, IfOk, Some, sym, subst, ◌∙◌}
use Rattle.can_frame.specs.Names.{place_of}
use Rattle.can_event.specs.declared.event.Event.{Event}
use Rattle.can_event.specs.declared.event.Event.TheVariants as event
use Rattle.can_session.specs.Benches.{BenchState, IsChanged, IsLeftBy, IsWrongChange}
use Rattle.can_session.proofs.Downing.{changed_by, left_after}
use Rattle.can_session.proofs.bench_state.Bench.take_down.Goals as goal

pub returns-clause-changed : goal.returns-clause-changed
returns-clause-changed c =
    let stood = c.self.inside in
    let old : BenchState = record { capacity = stood.capacity; shows_faults = stood.shows_faults; bus = stood.port; sessions = stood.sessions.items; moment = stood.moment; ignored = stood.ignored } in
    let after : BenchState = record old { bus = c.take_down-outcome.new.self } in
    let event_of : ℕ → ℕ → Event = λ i m. event.Down i m in
    let named : place_of old.bus.names c.args.name.now ≡ Some c.in-Some.iface = sym c.find.ensures ∙ c.in-Some.is in
    subst (λ (b : BenchState). IfOk c.put_change.result (λ (good : Bool). MatchBool good (IsChanged event_of c.args.name.now b c.put_change.new.said.items after) (IsWrongChange event_of c.args.name.now b))) c.self.view_is
    (changed_by event_of c.args.name.now old c.in-Some.iface c.take_down-outcome.result c.take_down-outcome.new.self c.put_change.new.said.items c.put_change.result named
    c.take_down-outcome.ensures.answer c.take_down-outcome.ensures.same c.put_change.ensures.good c.put_change.ensures.said)

pub returns-clause-left : goal.returns-clause-left
returns-clause-left c =
    let stood = c.self.inside in
    let old : BenchState = record { capacity = stood.capacity; shows_faults = stood.shows_faults; bus = stood.port; sessions = stood.sessions.items; moment = stood.moment; ignored = stood.ignored } in
    let after : BenchState = record old { bus = c.take_down-outcome.new.self } in
    subst (λ (b : BenchState). IfOk c.put_change.result (λ (good : Bool). good ≡ false → IsLeftBy b after)) c.self.view_is
    (left_after (event.Down c.in-Some.iface old.moment) old c.take_down-outcome.result c.take_down-outcome.new.self c.put_change.result c.take_down-outcome.ensures.answer c.take_down-outcome.ensures.same c.put_change.ensures.good)
