use Rattle.std.proofs.Common.{◌≡◌, ◌≤◌, ◌∷◌, IsTrue, refl, ap, ◌∙◌, subst}
use Rattle.can_event.specs.declared.entry.Entry.{Entry}
use Rattle.can_event.specs.declared.event.Event.{Event}
use Rattle.can_event.specs.declared.event.Event.TheVariants as event
use Rattle.can_event.specs.declared.reply.Reply.{Reply}
use Rattle.can_event.specs.Replies.{entry_of}
use Rattle.can_record.specs.Records.{Adds}
use Rattle.can_bus.specs.Lean.{record_of}
use Rattle.can_bus.specs.Long.{LongJournal, handed_entries, journal_of}
use Rattle.can_bus.proofs.Answering.{KeepsAnswer, carries, entered, is_ready}
use Rattle.can_bus.proofs.Tails.{longer_by, out_still, place_in, room_in, tail_more}
use Rattle.can_bus.proofs.long_bus.LongBus.answer_filters.Given as given
use Rattle.can_bus.proofs.long_bus.LongBus.answer_filters.Goals as goal
use Rattle.can_bus.proofs.long_bus.LongBus.answer_filters.Goals.{After-push_boxed}

pub answer-reply-requires : goal.answer-reply-requires
answer-reply-requires g c = is_ready (record_of c.self.inside.config c.self.inside.history) _ _ c.self.invariant.kept (room_in c.self.view_is c.requires.room) refl

pub push_boxed-requires : goal.push_boxed-requires
push_boxed-requires g c = record { room = place_in c.self.view_is c.requires.place c.self.invariant.holds }

-- the event of the entry that is recorded
abbrev asked : (g : given.Over) → After-push_boxed g → Event
asked g c = event.SetFilters c.args.id c.args.filters.now

is_asked : (g : given.Over) (c : After-push_boxed g) → c.deref_mut.result.now.event ≡ asked g c
is_asked g c = ap (λ (e : Entry). e.event) (c.deref_mut.ensures.value ∙ c.in-Ok.ensures)

is_noted : (g : given.Over) (c : After-push_boxed g) → c.note.new.self ≡ entry_of (asked g c) c.answer-reply.result ∷ c.self.inside.history
is_noted g c =
    c.note.ensures
    ∙ ap (λ (e : Event). entry_of e c.deref-3.result.now.reply ∷ c.self.inside.history) (ap (λ (e : Entry). e.event) c.deref-2.ensures ∙ is_asked g c)
    ∙ ap (λ (r : Reply). entry_of (asked g c) r ∷ c.self.inside.history) (ap (λ (e : Entry). e.reply) c.deref-3.ensures)

noted : (g : given.Over) (c : After-push_boxed g) → KeepsAnswer (journal_of c.args.self.now) (asked g c) c.answer-reply.result (record_of c.self.inside.config c.note.new.self) c.answer-reply.new.self
noted g c =
    let was : c.deref.result.now.event ≡ asked g c = ap (λ (e : Entry). e.event) (c.deref.ensures ∙ c.in-Ok.ensures) in
    let carried = carries c.self.invariant.kept (room_in c.self.view_is c.requires.room) refl was c.answer-reply.ensures in
    entered (ap journal_of c.self.view_is) c.self.invariant.kept carried (subst IsTrue c.enters.ensures c.if-not-enters.false) (longer_by _ _ _ _ (is_noted g c))

pub invariant_of-self-2 : goal.invariant_of-self-2
invariant_of-self-2 g c =
    let more = subst (λ (e : Event). Adds c.self.inside.tail.entries (entry_of e c.answer-reply.result) c.push_boxed.new.self.entries) (is_asked g c) c.push_boxed.ensures.more in
    record { kept = (noted g c).kept; holds = tail_more (entry_of (asked g c) c.answer-reply.result) c.self.invariant.holds (is_noted g c) more }

pub returns-clause-answered : goal.returns-clause-answered
returns-clause-answered g c = (noted g c).answered

pub returns-clause-tail : goal.returns-clause-tail
returns-clause-tail g c = record { handed = ap (λ (j : LongJournal). j.handed) c.self.view_is; room = subst (λ (j : LongJournal). j.room ≤ c.push_boxed.new.self.room) c.self.view_is c.push_boxed.ensures.room }

pub returns-clause-out : goal.returns-clause-out
returns-clause-out g c = out_still (entry_of (asked g c) c.answer-reply.result) c.self.invariant.holds (is_noted g c) ∙ ap handed_entries c.self.view_is
