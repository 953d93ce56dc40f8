use Rattle.std.proofs.Common.{◌≡◌, ◌≢◌, ℕ, suc, ◌<◌, ◌==◌, Bool, true, false, List, [], ◌∷◌, ◌++◌, length, refl, ap, sym, ◌∙◌, subst, arith, length-append}
use Rattle.std.specs.Prelude.{if◌then◌else◌}
use Rattle.std.proofs.lemmas.Bool.Decides.{nat_tests}
use mathlib.Core.Logic.{dite}
use native.Mathlib.Decide.{ℕ_discrete}
use Rattle.can_event.specs.declared.entry.Entry.{Entry}
use Rattle.can_event.specs.declared.event.Event.{Event}
use Rattle.can_event.specs.declared.reply.Reply.{Reply}
use Rattle.can_record.specs.Journal.{Journal}
use Rattle.can_event.specs.Events.{IsLongConfig}
use Rattle.can_event.specs.declared.bus_config.BusConfig.{BusConfig}
use Rattle.can_event.specs.declared.reply.Reply.TheVariants as reply
use Rattle.can_event.specs.declared.refusal.Refusal.TheVariants as refusal
use Rattle.can_bus.specs.Legal.{IsLegal}
use Rattle.can_bus.specs.Run.{IsAnswer, history_after}
use Rattle.can_roll.specs.Lists.{row, call_added, AllBelow}
use Rattle.can_roll.specs.Seen.{RollSeen, roll_seen, roll_with_pass}
use Rattle.can_roll.proofs.Rows.{row_added, row_added_else, length-added, row_front}
use Rattle.can_roll.proofs.Passes.{below_more}
use Rattle.can_event.specs.Replies.{enters, entry_of}
use Rattle.can_station.specs.Held.{roll_after}
use Rattle.can_station.specs.Marks.{marked, IsMarked, IsBooked}
use Rattle.can_station.specs.Passes.{PassSeen, AllMatch, AllMarked}
use Rattle.std.proofs.lemmas.List.Elements.{All-weaker}
use Rattle.can_station.proofs.Replies.{after-entered, after-kept}

-- Facts about the marks of a history with one more entry.

if_same : (p : ℕ) (x y : List Entry) → (if p == p then x else y) ≡ x
if_same p x y = rw (same p) refl
  where
    same : (p : ℕ) → (p == p) ≡ true
    same p = grind (arith, nat_tests)

if_other : (p q : ℕ) (x y : List Entry) → p ≢ q → (if p == q then x else y) ≡ y
if_other p q x y n = rw (no p q n) refl
  where
    no : (p q : ℕ) → p ≢ q → (p == q) ≡ false
    no p q n = grind (arith, nat_tests)

-- One more entry marked with p is one more entry in the roll's list for p.
pub marked-more : (lists : List (List Entry)) (ms : List ℕ) (past : List Entry) (p : ℕ) (e : Entry) → IsMarked lists ms past → p < length lists → IsMarked (call_added lists p e) (p ∷ ms) (e ∷ past)
marked-more lists ms past p e h lt =
    let len : length (call_added lists p e) ≡ length lists = length-added lists p e in
    record {
      long = ap suc h.long;
      below = (subst (λ n. p < n) (sym len) lt, subst (λ n. AllBelow n ms) (sym len) h.below);
      each = λ q. dite (ℕ_discrete q p)
          (λ (is : q ≡ p). subst (λ k. row (call_added lists p e) k ≡ marked k (p ∷ ms) (e ∷ past)) (sym is) (row_added lists p e lt ∙ (ap (λ l. e ∷ l) (h.each p) ∙ sym (if_same p (e ∷ marked p ms past) (marked p ms past)))))
          (λ (n : q ≢ p). row_added_else lists p q e n ∙ (h.each q ∙ sym (if_other p q (e ∷ marked q ms past) (marked q ms past) (λ is. n (sym is)))));
    }

-- The state of a new station is consistent: no pass has made a call.
pub booked_first : (number : ℕ) (j : Journal) → IsLongConfig j.config → j.history ≡ [] → IsBooked (roll_seen number [] []) j
booked_first number j proper empty = subst (λ (past : List Entry). IsBooked (roll_seen number [] []) (record { config = j.config; history = past })) (sym empty) (record {
  proper = proper;
  legal = tt;
  none_in = refl;
  few = omega arith;
  marks = [];
  marked = record { long = refl; below = tt; each = λ p. refl };
})

-- A legal history with one more legal reply is legal.
pub legal-after : (c : BusConfig) (past : List Entry) (e : Event) (r : Reply) → IsLegal c past → IsAnswer c past e r → IsLegal c (history_after e r past)
legal-after c past e (reply.Refused refusal.RecordFull) legal answer = legal
legal-after c past e (reply.Refused refusal.NoMemory) legal answer = legal
legal-after c past e _ legal answer = (answer.0, answer.1, legal)

booked_more : (roll : RollSeen) (j : Journal) (p : ℕ) (e : Entry) → IsBooked roll j → IsLegal j.config (e ∷ j.history) → p < length roll.lists
    → IsBooked (roll_seen roll.number (call_added roll.lists p e) roll.called) (record { config = j.config; history = e ∷ j.history })
booked_more roll j p e h legal below = record {
  proper = h.proper;
  legal = legal;
  none_in = h.none_in;
  few = omega (arith, length-added roll.lists p e, h.few);
  marks = p ∷ h.marks;
  marked = marked-more roll.lists h.marks j.history p e h.marked below;
}

booked_as : (b : Bool) (roll : RollSeen) (j : Journal) (p : ℕ) (e : Event) (r : Reply) → enters r ≡ b → IsBooked roll j → IsLegal j.config (history_after e r j.history) → (enters r ≡ true → p < length roll.lists)
    → IsBooked (roll_seen roll.number (if b then call_added roll.lists p (entry_of e r) else roll.lists) roll.called) (record { config = j.config; history = history_after e r j.history })
booked_as true roll j p e r is h legal below =
    subst (λ (past : List Entry). IsBooked (roll_seen roll.number (call_added roll.lists p (entry_of e r)) roll.called) (record { config = j.config; history = past }))
    (sym (after-entered e r j.history is)) (booked_more roll j p (entry_of e r) h (subst (IsLegal j.config) (after-entered e r j.history is) legal) (below is))
booked_as false roll j p e r is h legal below = subst (λ (past : List Entry). IsBooked (roll_seen roll.number roll.lists roll.called) (record { config = j.config; history = past })) (sym (after-kept e r j.history is)) h

-- The state under the lock is still consistent after one more call.
pub booked_after : (roll roll' : RollSeen) (j j' : Journal) (p : ℕ) (e : Event) (r : Reply) → IsBooked roll j → IsAnswer j.config j.history e r → (enters r ≡ true → p < length roll.lists)
    → roll' ≡ roll_after p e r roll → j' ≡ record j { history = history_after e r j.history } → IsBooked roll' j'
booked_after roll roll' j j' p e r h answer below er ej =
    subst (λ (x : RollSeen × Journal). IsBooked x.0 x.1) (λ k. (sym er k, sym ej k)) (booked_as (enters r) roll j p e r refl h (legal-after j.config j.history e r h.legal answer) below)

-- The entries marked with each pass are the same after one more pass enters.
pub marked-enter : (lists : List (List Entry)) (ms : List ℕ) (past : List Entry) → IsMarked lists ms past → IsMarked (lists ++ [] ∷ []) ms past
marked-enter lists ms past h = record {
  long = h.long;
  below = below_more (length lists) (length (lists ++ [] ∷ [])) ms (omega (arith, length-append lists ([] ∷ []))) h.below;
  each = λ p. row_front lists p ∙ h.each p;
}

pub booked_enter : (roll roll' : RollSeen) (j : Journal) → IsBooked roll j → length roll.lists < 4096 → roll' ≡ roll_with_pass roll → IsBooked roll' j
booked_enter roll roll' j h few er = subst (λ (x : RollSeen). IsBooked x j) (sym er) (record {
  proper = h.proper;
  legal = h.legal;
  none_in = h.none_in;
  few = omega (arith, few, length-append roll.lists ([] ∷ []));
  marks = h.marks;
  marked = marked-enter roll.lists h.marks j.history h.marked;
})

-- If the calls of the passes match the roll's lists, they are exactly the entries marked with each pass.
pub marked-all : (lists : List (List Entry)) (marks : List ℕ) (past : List Entry) (own : List PassSeen) → IsMarked lists marks past → AllMatch lists own → AllMarked marks past own
marked-all lists marks past own m = All-weaker (λ (v : PassSeen). row lists v.pass ≡ v.calls) (λ (v : PassSeen). marked v.pass marks past ≡ v.calls) (λ v match. sym (m.each v.pass) ∙ match) own
