-- The output of a line that takes an interface down or brings it up.
use Rattle.std.proofs.Common.{◌≡◌, ◌≢◌, inr, refl, ℕ, Bool, true, false, MatchBool, List, Some, Result, Ok, Err, IfOk, sym, ap, ◌∙◌}
use Rattle.can_frame.specs.Names.{place_of}
use Rattle.can_event.specs.declared.event.Event.{Event}
use Rattle.can_event.specs.declared.refusal.Refusal.{Refusal}
use Rattle.can_event.specs.declared.refusal.Refusal.TheVariants as refusal
use Rattle.can_record.specs.Journal.{Journal}
use Rattle.can_record.specs.Outcomes.{done_reply}
use Rattle.can_bus.specs.Answer.{Answers}
use Rattle.can_session.specs.BusSteps.{NamedBus}
use Rattle.can_session.specs.Benches.{BenchState, IsChanged, IsDenied, IsWrongChange, IsLeftBy, change_line, is_good_change}

-- a refusal that makes a line wrong has a reason other than a full record
not_full : (why : Refusal) → is_good_change (Err why) ≡ false → why ≢ refusal.RecordFull
not_full refusal.RecordFull bad = cc
not_full why bad = λ full. let same : is_good_change (Err why) ≡ true = ap (λ (w : Refusal). is_good_change (Err w)) full in cc

-- if a line is wrong, the bus refused its change
denied : (event_of : ℕ → ℕ → Event) (name : List ℕ) (b : BenchState) (iface : ℕ) (outcome : Result (Unit {0}) Refusal) (journal : Journal)
    → is_good_change outcome ≡ false → place_of b.bus.names name ≡ Some iface → Answers done_reply b.bus.journal (event_of iface b.moment) outcome journal → IsDenied event_of name b
denied event_of name b iface (Ok done) journal bad named answers = cc
denied event_of name b iface (Err why) journal bad named answers =
    record { iface = iface; why = why; journal = journal; named = named; answers = answers; fault = not_full why bad }

by : (event_of : ℕ → ℕ → Event) (name : List ℕ) (b : BenchState) (iface : ℕ) (outcome : Result (Unit {0}) Refusal) (bus : NamedBus) (said : List ℕ) (good : Bool)
    → place_of b.bus.names name ≡ Some iface → Answers done_reply b.bus.journal (event_of iface b.moment) outcome bus.journal → bus ≡ record b.bus { journal = bus.journal }
    → good ≡ is_good_change outcome → (good ≡ true → said ≡ change_line outcome)
    → MatchBool good (IsChanged event_of name b said (record b { bus = bus })) (IsWrongChange event_of name b)
by event_of name b iface outcome bus said true named answers same is put = record {
  iface = iface;
  outcome = outcome;
  journal = bus.journal;
  named = named;
  answers = answers;
  good = sym is;
  text_is = put refl;
  after_is = ap (λ (x : NamedBus). record b { bus = x }) same;
}
by event_of name b iface outcome bus said false named answers same is put = inr (denied event_of name b iface outcome bus.journal (sym is) named answers)

-- the changes to the bus and the output are those that a line that takes an interface down or brings it up should have
pub changed_by : {E : Type 0} (event_of : ℕ → ℕ → Event) (name : List ℕ) (b : BenchState) (iface : ℕ) (outcome : Result (Unit {0}) Refusal) (bus : NamedBus) (said : List ℕ) (r : Result Bool E)
    → place_of b.bus.names name ≡ Some iface → Answers done_reply b.bus.journal (event_of iface b.moment) outcome bus.journal → bus ≡ record b.bus { journal = bus.journal }
    → IfOk r (λ good. good ≡ is_good_change outcome) → IfOk r (λ good. good ≡ true → said ≡ change_line outcome)
    → IfOk r (λ good. MatchBool good (IsChanged event_of name b said (record b { bus = bus })) (IsWrongChange event_of name b))
changed_by event_of name b iface outcome bus said (Ok good) named answers same is put = by event_of name b iface outcome bus said good named answers same is put
changed_by event_of name b iface outcome bus said (Err e) named answers same is put = tt

-- after a wrong line, the record of the bench contains the change that its bus refused
left_by : (event : Event) (b : BenchState) (outcome : Result (Unit {0}) Refusal) (bus : NamedBus)
    → is_good_change outcome ≡ false → Answers done_reply b.bus.journal event outcome bus.journal → bus ≡ record b.bus { journal = bus.journal } → IsLeftBy b (record b { bus = bus })
left_by event b (Ok done) bus bad answers same = cc
left_by event b (Err why) bus bad answers same = inr (event, why, bus.journal, answers, ap (λ (x : NamedBus). record b { bus = x }) same)

pub left_after : {E : Type 0} (event : Event) (b : BenchState) (outcome : Result (Unit {0}) Refusal) (bus : NamedBus) (r : Result Bool E)
    → Answers done_reply b.bus.journal event outcome bus.journal → bus ≡ record b.bus { journal = bus.journal } → IfOk r (λ good. good ≡ is_good_change outcome)
    → IfOk r (λ good. good ≡ false → IsLeftBy b (record b { bus = bus }))
left_after event b outcome bus (Ok good) answers same is = λ bad. left_by event b outcome bus (sym is ∙ bad) answers same
left_after event b outcome bus (Err e) answers same is = tt
