use Rattle.std.proofs.Common.{subst, ap}
use Rattle.can_session.specs.BusSteps.{NamedBus}
use Rattle.can_session.specs.Benches.{BenchState, IsInjected}
use Rattle.can_session.proofs.bench_state.Bench.inject.Goals as goal

pub returns-in_default-clause-taken : goal.returns-in_default-clause-taken
returns-in_default-clause-taken c =
    let stood = c.self.inside in
    let new = c.take_rule.new.self in
    let old : BenchState = record { capacity = stood.capacity; shows_faults = stood.shows_faults; bus = stood.port; sessions = stood.sessions.items; moment = stood.moment; ignored = stood.ignored } in
    let after : BenchState = record old { bus = new } in
    subst (λ (b : BenchState). IsInjected c.args.rule.now b after) c.self.view_is
    (record { plan = new.plan; takes = c.in_default.ensures.takes; after_is = ap (λ (bus : NamedBus). record old { bus = bus }) c.take_rule.ensures.same })
