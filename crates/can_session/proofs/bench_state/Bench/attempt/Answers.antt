use Rattle.std.proofs.Common.{ℕ, sym, ap, subst, ◌∙◌}
use Rattle.can_fault.specs.Sources.{verdict_in}
use Rattle.can_session.specs.Benches.{BenchState, IsTriedIf, said_moment}
use Rattle.can_session.specs.inner.Acts.{Puts}
use Rattle.can_session.proofs.TimedRuns.{Made, tried_by}
use Rattle.can_session.proofs.bench_state.Bench.attempt.Goals as goal

pub returns-clause-tried : goal.returns-clause-tried
returns-clause-tried g c =
    let stood = c.self.inside in
    let verdicts = g.F.FaultSource.verdicts c.args.script.now in
    let old : BenchState = record { capacity = stood.capacity; shows_faults = stood.shows_faults; bus = stood.port; sessions = stood.sessions.items; moment = stood.moment; ignored = stood.ignored } in
    let bus = c.attempt-outcome.new.self in
    let source = c.verdict-source.result in
    let decision = c.attempt-outcome.result.0 in
    let outcome = c.attempt-outcome.result.1 in
    let waits = c.waits_in_time-waits.result in
    let moment = c.next_moment-moment.result in
    let when = c.said_moment-when.result in
    let shown = c.said_decision-shown.result in
    let made : Made verdicts old bus source decision waits moment when shown outcome = record {
      source_is = c.verdict-source.ensures.answer ∙ ap (λ (n : ℕ). verdict_in verdicts n) c.next_attempt.ensures;
      decision_is = c.attempt-outcome.ensures.decision;
      verdict_is = c.attempt-outcome.ensures.verdict;
      waits_is = c.waits_in_time-waits.ensures;
      moment_is = c.next_moment-moment.ensures;
      when_is = c.said_moment-when.ensures ∙ ap (λ (b : BenchState). said_moment b.bus.schedule moment) (sym c.self.view_is);
      shown_is = c.said_decision-shown.ensures;
      answers = c.attempt-outcome.ensures.answer;
      names = c.attempt-outcome.ensures.names;
      plan = c.attempt-outcome.ensures.plan;
      schedule = c.attempt-outcome.ensures.schedule;
    } in
    subst (λ (b : BenchState). Puts (IsTriedIf c.is_ok.result verdicts) b c.args.said.now.items c.pass.new.self c.put_attempt.new.said.items) c.self.view_is
    (tried_by verdicts old c.pass.new.self bus source decision waits moment when shown outcome c.names.result.now c.args.said.now.items c.put_attempt.new.said.items c.is_ok.result made c.names.ensures c.in_ok-put_attempt.ensures c.pass.ensures c.is_ok.ensures.value)
