use Rattle.std.proofs.Common.{rules, ◌≡◌, ◌≢◌, Some, reverse, arith, sym, ap, ◌∙◌, subst}
use Rattle.std.proofs.lemmas.Option.{slice_get_within, get_or_from_slice_get}
use Rattle.std.proofs.lemmas.Bool.{iff_false}
use Rattle.can_bus.proofs.Headlines.{headline}
use Rattle.can_event.specs.Events.{IsConfig}
use Rattle.can_event.proofs.Limits.{long-config}
use Rattle.can_replay.specs.Audits.{Blames}
use Rattle.can_replay.proofs.Auditing.{Turn, blamed, replayed_more, all_legal, spared}
use Rattle.can_replay.proofs.audits.audit.Goals as goal

pub returns-then-not-same_reply-clause-wrong : goal.returns-then-not-same_reply-clause-wrong
returns-then-not-same_reply-clause-wrong c =
    let es = reverse c.args.record.now.history in
    let e = c.entry-entry.result.now in
    let there = sym c.entry.ensures.entry ∙ c.unwrap-looked.ensures ∙ ap Some (sym c.entry-entry.ensures) in
    let turn : Turn c.args.record.now.config es c.loop-i.i e c.loop-i.bus c.answer-reply.result = record {
      below = slice_get_within es c.loop-i.i e there;
      read = sym (get_or_from_slice_get es c.loop-i.i e e there);
      config = c.loop-i.invariant.1;
      is_after = c.loop-i.invariant.0;
      answer = c.answer-reply.ensures.answer;
    } in
    let other : c.answer-reply.result ≢ e.reply = iff_false c.same_reply.ensures c.if-not-same_reply.true in
    subst (Blames c.args.record.now.config es) (sym c.fault_at.ensures) (blamed _ _ _ _ _ _ turn other)

pub loop-i-preserved : goal.loop-i-preserved
loop-i-preserved c =
    let es = reverse c.args.record.now.history in
    let e = c.entry-entry.result.now in
    let there = sym c.entry.ensures.entry ∙ c.unwrap-looked.ensures ∙ ap Some (sym c.entry-entry.ensures) in
    let same : c.answer-reply.result ≡ e.reply = c.same_reply.ensures.0 c.if-not-same_reply.false in (
      replayed_more es c.loop-i.i e c.loop-i.bus c.answer-reply.new.self c.answer-reply.result (slice_get_within es c.loop-i.i e there) (sym (get_or_from_slice_get es c.loop-i.i e e there)) (search (c.entry.ensures, c.unwrap-looked.ensures, c.entry-entry.ensures, rules)) same c.loop-i.invariant.0 c.answer-reply.ensures.after,
      c.answer-reply.ensures.config ∙ c.loop-i.invariant.1,
    )

pub returns-then-not-same_reply-clause-spared : goal.returns-then-not-same_reply-clause-spared
returns-then-not-same_reply-clause-spared c = spared c.args.record.now.config c.args.record.now.history c.fault_at.result (subst IsConfig c.config.ensures.config c.config.ensures.proper) (returns-then-not-same_reply-clause-wrong c)

pub returns-clause-legal : goal.returns-clause-legal
returns-clause-legal c =
    all_legal c.args.record.now.config c.args.record.now.history c.loop-i.i c.loop-i.bus (omega (arith, c.loop-i-test.false, c.len-i-end.ensures)) c.loop-i.invariant.1 c.loop-i.invariant.0

pub returns-clause-headline : goal.returns-clause-headline
returns-clause-headline c = headline c.args.record.now.config c.args.record.now.history (long-config _ (subst IsConfig c.config.ensures.config c.config.ensures.proper)) (returns-clause-legal c)
