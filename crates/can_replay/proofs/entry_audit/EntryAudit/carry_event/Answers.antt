use Rattle.std.proofs.Common.{◌≡◌, ◌++◌, ◌∙◌, IsTrue, Bool, Some, None, refl, reverse, subst, sym, true, false, arith}
use Rattle.can_event.specs.declared.bus_config.BusConfig.{BusConfig}
use Rattle.can_event.specs.Replies.{Enters}
use Rattle.can_record_text.proofs.Again.{starts-with-line}
use Rattle.can_replay.specs.inner.EntryAudits.{IsGoing}
use Rattle.can_replay.specs.inner.Carried.{IsNext}
use Rattle.can_replay.proofs.TextAnswering.{next_is, other_past, other_reply}
use Rattle.can_replay.proofs.Taking.{legal_more, not_taken, takes_blamed}
use Rattle.can_replay.proofs.entry_audit.EntryAudit.carry_event.Goals as goal

never : (b : Bool) → IsTrue b → b ≡ false → ⊥
never true h e = absurd cc
never false h e = absurd cc

pub returns-then-is_past_limit : goal.returns-then-is_past_limit
returns-then-is_past_limit c =
    takes_blamed c.args.self.now c.report_wrong_past.new.self c.answer-reply.new.self c.args.line.now None c.report_wrong_past.result c.requires.legal c.answer-reply.ensures.config
    (λ past is_after. other_past c.args.self.now.bus.config past c.args.line.now c.args.event.now c.answer-reply.result (c.is_past_limit.ensures.0 c.if-is_past_limit.true) (c.answer-reply.ensures.answer past is_after)) c.report_wrong_past.ensures

pub returns-in-Ok-false : goal.returns-in-Ok-false
returns-in-Ok-false c =
    let test : IsTrue c.enters.result = grind (arith, c.if-not-enters.false) in
    let enters : Enters c.answer-reply.result = subst IsTrue c.enters.ensures test in
    takes_blamed c.args.self.now c.report_wrong_reply.new.self c.answer-reply.new.self c.args.line.now (Some c.answer-reply.result) c.report_wrong_reply.result c.requires.legal c.answer-reply.ensures.config
    (λ past is_after v e rest good is.
    other_reply v c.args.self.now.bus.config past c.args.line.now rest c.requires.seems.0 e c.args.event.now c.answer-reply.result good is c.requires.seems.1 enters (c.answer-reply.ensures.answer past is_after)
    (λ same. never c.in-Ok-false.field-0 (c.in-Ok-false.ensures.line.1 (starts-with-line c.args.event.now c.answer-reply.result c.args.line.now rest same)) c.in-Ok-false.field-0-test)) c.report_wrong_reply.ensures

pub returns-then-not-takes : goal.returns-then-not-takes
returns-then-not-takes c = (
  refl,
  λ text g going.
      let old = c.args.self.now in
      let line = c.args.line.now in
      let past = reverse g.read.entries in
      let test : IsTrue c.enters.result = grind (arith, c.if-not-enters.false) in
      let enters : Enters c.answer-reply.result = subst IsTrue c.enters.ensures test in
      let one : IsNext old.bus.config past line c.of-needs.result c.answer-reply.new.self =
      next_is old.bus.config past line c.args.event.now c.answer-reply.result c.of-needs.result c.answer-reply.new.self enters (c.answer-reply.ensures.spelled enters) c.is_line_of.ensures.values.0 c.is_line_of.ensures.values.1 c.of-needs.ensures
      (c.in-Ok-true.ensures.line.0 c.in-Ok-true.field-0-test) (c.answer-reply.ensures.after past (g.is_after going c.requires.legal)) in
      not_taken old.version old.config past line c.of-needs.result c.answer-reply.new.self (subst (λ (d : BusConfig). IsNext d past line c.of-needs.result c.answer-reply.new.self) (g.config going) one) (sym c.takes.ensures ∙ c.if-not-takes.true),
)

pub returns : goal.returns
returns c = λ text g going is.
    let old = c.args.self.now in
    let line = c.args.line.now in
    let test : IsTrue c.enters.result = grind (arith, c.if-not-enters.false) in
    let enters : Enters c.answer-reply.result = subst IsTrue c.enters.ensures test in
    subst (IsGoing (text ++ line)) (sym c.add.ensures)
    (legal_more text line old c.answer-reply.new.self c.of-needs.result g c.requires.legal going is c.answer-reply.ensures.config
    (λ past is_after.
    next_is old.bus.config past line c.args.event.now c.answer-reply.result c.of-needs.result c.answer-reply.new.self enters (c.answer-reply.ensures.spelled enters) c.is_line_of.ensures.values.0 c.is_line_of.ensures.values.1 c.of-needs.ensures
    (c.in-Ok-true.ensures.line.0 c.in-Ok-true.field-0-test) (c.answer-reply.ensures.after past is_after))
    (sym c.takes.ensures ∙ c.if-not-takes.false))
