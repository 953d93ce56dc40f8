use Rattle.std.proofs.Common.{◌≡◌, ℕ, length, sym, ap, ◌∙◌, subst}
use Rattle.can_event.specs.declared.event.Event.{Event}
use Rattle.can_event.specs.declared.event.Event.TheVariants as event
use Rattle.can_fault.specs.Sources.{verdict_in}
use Rattle.can_record.specs.Journal.{Journal}
use Rattle.can_record.specs.Tapes.{tape}
use Rattle.can_roll.specs.Seen.{RollSeen, scroll_seen}
use Rattle.can_rules.specs.Plans.{given, plan_after}
use Rattle.can_station.specs.Held.{Held}
use Rattle.can_station.specs.Passes.{IsCarriedOutForSlip, next_try, next_plan, next_verdict}
use Rattle.can_station.proofs.station_state.StationState.step.Goals as goal

pub invariant_of-self : goal.invariant_of-self
invariant_of-self g c =
    let done = c.answer_and_book-reply.ensures in
    let number : c.answer_and_book-reply.new.roll.number ≡ c.self.inside.roll.number = ap (λ (r : RollSeen). r.number) done.roll in (
      done.booked,
      done.published,
      c.self.invariant.2 ∙ sym number,
      ap (λ (j : Journal). j.config) done.answered.after ∙ c.self.invariant.3,
      c.self.invariant.4 ∙ (λ k. scroll_seen (sym number k) (sym done.out k)),
    )

pub returns-clause-carried : goal.returns-clause-carried
returns-clause-carried g c =
    let verdicts = g.F.FaultSource.verdicts in
    let inside = c.self.inside in
    let j : Journal = g.B.Journaled.journal c.self.inside.bus in
    let attempt : c.next_attempt-attempt.result ≡ length (tape j.history) = c.next_attempt-attempt.ensures in
    let sourced : c.verdict-sourced.result ≡ verdict_in (verdicts c.self.inside.source) (length (tape j.history)) =
    c.verdict-sourced.ensures.answer ∙ ap (λ (n : ℕ). verdict_in (verdicts c.self.inside.source) n) attempt in
    let verdict : c.next_verdict-verdict.result ≡ next_verdict verdicts c.args.self.now =
    c.next_verdict-verdict.ensures.verdict ∙ (λ k. given (sourced k) c.self.inside.plan (attempt k) (next_try j)) ∙ ap (λ (h : Held g.row.F.Denot). next_verdict verdicts h) c.self.view_is in
    let plan : c.next_verdict-verdict.new.plan ≡ next_plan verdicts c.args.self.now =
    c.next_verdict-verdict.ensures.after ∙ (λ k. plan_after (sourced k) c.self.inside.plan (attempt k) (next_try j)) ∙ ap (λ (h : Held g.row.F.Denot). next_plan verdicts h) c.self.view_is in
    let done = c.answer_and_book-reply.ensures in
    let now : Held g.row.F.Denot = record {
      number = inside.roll.number;
      journal = j;
      lists = inside.roll.lists;
      source = c.verdict-sourced.new.self;
      plan = c.next_verdict-verdict.new.plan;
      changes = inside.changes;
      stopped = inside.stopped;
    } in
    let new : Held g.row.F.Denot = record {
      number = c.answer_and_book-reply.new.roll.number;
      journal = g.B.Journaled.journal c.answer_and_book-reply.new.bus;
      lists = c.answer_and_book-reply.new.roll.lists;
      source = c.verdict-sourced.new.self;
      plan = c.next_verdict-verdict.new.plan;
      changes = inside.changes;
      stopped = inside.stopped;
    } in
    let carried : IsCarriedOutForSlip now c.args.slip.now (event.Attempt c.args.moment c.next_verdict-verdict.result) c.answer_and_book-reply.result new c.answer_and_book-reply.new.slip =
    record {
      answer = done.answered.answer;
      after = λ k. record {
        number = (done.roll k).number;
        journal = done.answered.after k;
        lists = (done.roll k).lists;
        source = c.verdict-sourced.new.self;
        plan = c.next_verdict-verdict.new.plan;
        changes = inside.changes;
        stopped = inside.stopped;
      };
      noted = done.slip;
    } in
    subst (λ (x : Held g.row.F.Denot × Event). IsCarriedOutForSlip x.0 c.args.slip.now x.1 c.answer_and_book-reply.result new c.answer_and_book-reply.new.slip)
    (λ k. (record (c.self.view_is k) { source = c.verdict-sourced.new.self; plan = plan k }, event.Attempt c.args.moment (verdict k))) carried
