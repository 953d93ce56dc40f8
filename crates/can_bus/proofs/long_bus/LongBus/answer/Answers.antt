use Rattle.std.proofs.Common.{◌≤◌, IsTrue, refl, ap, ◌∙◌, subst}
use Rattle.can_bus.specs.Lean.{record_of}
use Rattle.can_bus.specs.Long.{LongJournal, handed_entries, journal_of}
use Rattle.can_event.specs.Replies.{entry_of}
use Rattle.can_bus.proofs.Answering.{KeepsAnswer, carries, entered, entered_is_legal, is_ready, not_filters}
use Rattle.can_bus.proofs.Keeping.{not_full}
use Rattle.can_bus.proofs.Narrow.{legal_fits}
use Rattle.can_bus.proofs.Tails.{full_in, longer_by, out_still, place_in, tail_more}
use Rattle.can_bus.proofs.long_bus.LongBus.answer.Given as given
use Rattle.can_bus.proofs.long_bus.LongBus.answer.Goals as goal
use Rattle.can_bus.proofs.long_bus.LongBus.answer.Goals.{After-note}

pub answer-reply-requires : goal.answer-reply-requires
answer-reply-requires g c = is_ready (record_of c.self.inside.config c.self.inside.history) _ _ c.self.invariant.kept (not_full _ _ _ (full_in c.self.view_is c.is_full.ensures) c.if-is_full.false) refl

pub push-requires-clause-room : goal.push-requires-clause-room
push-requires-clause-room g c = place_in c.self.view_is c.requires c.self.invariant.holds

pub push-requires-clause-fits : goal.push-requires-clause-fits
push-requires-clause-fits g c =
    let j = record_of c.self.inside.config c.self.inside.history in
    let carried = carries c.self.invariant.kept (not_full _ _ _ (full_in c.self.view_is c.is_full.ensures) c.if-is_full.false) refl refl c.answer-reply.ensures in
    legal_fits j c.self.inside.state c.args.event.now _ c.self.invariant.kept (not_filters _ c.in_default.not-SetFilters)
    (entered_is_legal j.config j.history c.args.event.now _ carried.answer (subst IsTrue c.enters.ensures c.if-not-enters.false)).1

noted : (g : given.Over) (c : After-note g) → KeepsAnswer (journal_of c.args.self.now) c.args.event.now c.answer-reply.result (record_of c.self.inside.config c.note.new.self) c.answer-reply.new.self
noted g c =
    let carried = carries c.self.invariant.kept (not_full _ _ _ (full_in c.self.view_is c.is_full.ensures) c.if-is_full.false) refl refl c.answer-reply.ensures in
    entered (ap journal_of c.self.view_is) c.self.invariant.kept carried (subst IsTrue c.enters.ensures c.if-not-enters.false) (longer_by _ _ _ _ c.note.ensures)

pub invariant_of-self-2 : goal.invariant_of-self-2
invariant_of-self-2 g c = record {
  kept = (noted g c).kept;
  holds = tail_more (entry_of c.args.event.now c.answer-reply.result) c.self.invariant.holds c.note.ensures c.push.ensures.more;
}

pub returns-clause-answered : goal.returns-clause-answered
returns-clause-answered g c = (noted g c).answered

pub returns-clause-tail : goal.returns-clause-tail
returns-clause-tail g c = record { handed = ap (λ (j : LongJournal). j.handed) c.self.view_is; room = subst (λ (j : LongJournal). j.room ≤ c.push.new.self.room) c.self.view_is c.push.ensures.room }

pub returns-clause-out : goal.returns-clause-out
returns-clause-out g c = out_still (entry_of c.args.event.now c.answer-reply.result) c.self.invariant.holds c.note.ensures ∙ ap handed_entries c.self.view_is
