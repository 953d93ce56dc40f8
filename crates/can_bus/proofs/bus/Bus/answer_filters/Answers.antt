use Rattle.std.proofs.Common.{IsTrue, ◌≡◌, ◌<◌, ◌∙◌, length, ap, sym, subst}
use Rattle.can_event.specs.declared.entry.Entry.{Entry}
use Rattle.can_event.specs.declared.event.Event.{Event}
use Rattle.can_event.specs.declared.event.Event.TheVariants as event
use Rattle.can_record.specs.Journal.{Journal}
use Rattle.can_record.specs.Journal.{IsLonger}
use Rattle.can_bus.proofs.Answering.{KeepsAnswer, answer_is_spelled, carries, entered, is_ready}
use Rattle.can_bus.proofs.bus.Bus.answer_filters.Given as given
use Rattle.can_bus.proofs.bus.Bus.answer_filters.Goals as goal
use Rattle.can_bus.proofs.bus.Bus.answer_filters.Goals.{After-push_boxed}

-- the record had room
with_room : {j : Journal} {k : Journal} → j ≡ k → length k.history < k.config.limit → length j.history < j.config.limit
with_room view room = subst (λ (j : Journal). length j.history < j.config.limit) (sym view) room

pub answer-reply-requires : goal.answer-reply-requires
answer-reply-requires g c = is_ready _ _ _ c.self.invariant (with_room c.self.view_is c.requires.room) c.config.ensures.config

pub push_boxed-requires-clause-spelled : goal.push_boxed-requires-clause-spelled
push_boxed-requires-clause-spelled g c =
    let same : c.deref.result.now.event ≡ c.deref_mut.result.now.event = ap (λ (e : Entry). e.event) (c.deref.ensures ∙ sym c.deref_mut.ensures.value) in
    let carried = carries c.self.invariant (with_room c.self.view_is c.requires.room) c.config.ensures.config same c.answer-reply.ensures in
    answer_is_spelled c.self.inside.record.config c.self.inside.record.history c.deref_mut.result.now.event _ carried.answer (subst IsTrue c.enters.ensures c.if-not-enters.false)

noted : (g : given.Over) (c : After-push_boxed g) → KeepsAnswer c.args.self.now (event.SetFilters c.args.id c.args.filters.now) c.answer-reply.result c.push_boxed.new.self c.answer-reply.new.self
noted g c =
    let was : c.deref.result.now.event ≡ event.SetFilters c.args.id c.args.filters.now = ap (λ (e : Entry). e.event) (c.deref.ensures ∙ c.in-Ok.ensures) in
    let is : c.deref_mut.result.now.event ≡ event.SetFilters c.args.id c.args.filters.now = ap (λ (e : Entry). e.event) (c.deref_mut.ensures.value ∙ c.in-Ok.ensures) in
    let carried = carries c.self.invariant (with_room c.self.view_is c.requires.room) c.config.ensures.config was c.answer-reply.ensures in
    let longer = subst (λ (e : Event). IsLonger c.self.inside.record (record { event = e; reply = c.answer-reply.result }) c.push_boxed.new.self) is c.push_boxed.ensures in
    entered c.self.view_is c.self.invariant carried (subst IsTrue c.enters.ensures c.if-not-enters.false) longer

pub invariant_of-self-2 : goal.invariant_of-self-2
invariant_of-self-2 g c = (noted g c).kept

pub returns : goal.returns
returns g c = (noted g c).answered
