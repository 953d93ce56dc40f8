use Rattle.std.proofs.Common.{◌≡◌, ℕ, suc, ◌<◌, ◌≤◌, ◌==◌, Bool, true, false, ◌&&◌, List, [], ◌∷◌, length, inr, refl, ap, sym, ◌∙◌, subst, arith}
use Rattle.std.specs.Prelude.{Option, Some, None, Result, Ok, Err, if◌then◌else◌}
use Rattle.std.specs.Bool.{beq}
use Rattle.std.proofs.lemmas.Bool.Decides.{nat_tests}
use Rattle.std.proofs.lemmas.List.Elements.{All-weaker}
use mathlib.Core.List.{IsSuffix}
use Rattle.can_confine.specs.Confinement.{ErrorCounts}
use Rattle.can_event.specs.declared.bus_config.BusConfig.{BusConfig}
use Rattle.can_event.specs.declared.entry.Entry.{Entry}
use Rattle.can_event.specs.declared.event.Event.{Event}
use Rattle.can_event.specs.declared.event.Event.TheVariants as event
use Rattle.can_event.specs.declared.reply.Reply.{Reply}
use Rattle.can_bus.specs.Counters.{counts_of}
use Rattle.can_record.specs.Journal.{Journal}
use Rattle.can_event.specs.Events.{IsLongConfig}
use Rattle.can_bus.specs.Legal.{IsLegal}
use Rattle.can_bus.specs.Run.{history_after}
use Rattle.can_bus.specs.Stats.{all_counts}
use Rattle.can_bus.proofs.Bounds.{legal-short}
use Rattle.can_bus.proofs.NodeFacts.{all_counts-at}
use Rattle.can_meter.specs.declared.status.Status.{Status}
use Rattle.can_meter.specs.Publications.{published, newest, AreEndsOf}
use Rattle.can_meter.specs.Readings.{Readings, readings}
use Rattle.can_event.specs.Replies.{enters, entry_of}
use Rattle.can_station.specs.Passes.{PassSeen}
use Rattle.can_station.specs.Published.{are_same, published_after, publications_of, counts_before, counters_at, IsPublished, AllEarlier, Publishes, AllSeen, AreTrue, TakesBack, TakesBackScroll}
use Rattle.can_station.proofs.Replies.{after-entered, after-kept}

-- Facts about the publications of a history with one more entry.

-- The newest publication comes from an entry of the history.
newest_after : (b : Bool) (at n : ℕ) (counts : ErrorCounts) (before : List Status) → at ≤ n → (newest before).at ≤ n
    → (newest (if b then before else record { at = at; counters = counts } ∷ before)).at ≤ n
newest_after true at n counts before le is = is
newest_after false at n counts before le is = le

pub newest-within : (c : BusConfig) (past : List Entry) (i : ℕ) → (newest (publications_of c past i)).at ≤ length past
newest-within c [] i = omega arith
newest-within c (e ∷ past) i =
    let old = counts_of c past i in
    let new = counts_of c (e ∷ past) i in
    newest_after (are_same old new) (suc (length past)) (suc (length past)) new (publications_of c past i) (omega arith) (omega (arith, newest-within c past i))

-- The keeper has published only for shorter records, so the next entry may publish again.
pub later : (keeper : Readings) (number : ℕ) (j : Journal) (e : Event) (r : Reply) (at : ℕ) → IsPublished keeper number j → at ≡ length (history_after e r j.history) → enters r ≡ true → AllEarlier keeper at
later keeper number j e r at is at_is enters_is i below =
    let there : i < j.config.ifaces = omega (arith, is.ifaces_are) in
    subst (λ (ps : List Status). (newest ps).at < at) (sym (is.each i there)) (omega (arith, newest-within j.config j.history i, at_is ∙ ap length (after-entered e r j.history enters_is)))

-- The keeper still has published each change after one more entry enters the record.
entered : (keeper keeper' : Readings) (number : ℕ) (j : Journal) (e : Entry) (before after : List ErrorCounts) (at : ℕ) → IsLongConfig j.config → IsPublished keeper number j
    → keeper'.number ≡ keeper.number → keeper'.ifaces ≡ keeper.ifaces → at ≡ suc (length j.history)
    → before ≡ all_counts j.config j.history → after ≡ all_counts j.config (e ∷ j.history)
    → Publishes keeper before after at keeper'
    → IsPublished keeper' number (record { config = j.config; history = e ∷ j.history })
entered keeper keeper' number j e before after at proper is number_same ifaces_same at_is before_is after_is lists = record {
  number_is = number_same ∙ is.number_is;
  ifaces_are = ifaces_same ∙ is.ifaces_are;
  each = λ i below.
      let few : i < 16 = omega (arith, proper.few_ifaces) in
      let old : counters_at before i ≡ counts_of j.config j.history i = ap (λ cs. counters_at cs i) before_is ∙ all_counts-at j.config j.history i few in
      let new : counters_at after i ≡ counts_of j.config (e ∷ j.history) i = ap (λ cs. counters_at cs i) after_is ∙ all_counts-at j.config (e ∷ j.history) i few in
      lists i (omega (arith, is.ifaces_are))
      ∙ (λ k. published_after (old k) (new k) (at_is k) (is.each i below k));
}

-- After a call, the keeper has published the history that includes the call.
published_as : (b : Bool) (keeper keeper' : Readings) (number : ℕ) (j : Journal) (e : Event) (r : Reply) (before after : List ErrorCounts) (at : ℕ) → enters r ≡ b → IsLongConfig j.config → IsPublished keeper number j
    → keeper'.number ≡ keeper.number → keeper'.ifaces ≡ keeper.ifaces → at ≡ length (history_after e r j.history)
    → before ≡ all_counts j.config j.history → after ≡ all_counts j.config (history_after e r j.history)
    → (b ≡ true → Publishes keeper before after at keeper') → (b ≡ false → keeper' ≡ keeper)
    → IsPublished keeper' number (record { config = j.config; history = history_after e r j.history })
published_as true keeper keeper' number j e r before after at enters_is proper is number_same ifaces_same at_is before_is after_is lists still =
    let longer : history_after e r j.history ≡ entry_of e r ∷ j.history = after-entered e r j.history enters_is in
    subst (λ (past : List Entry). IsPublished keeper' number (record { config = j.config; history = past })) (sym longer)
    (entered keeper keeper' number j (entry_of e r) before after at proper is number_same ifaces_same (at_is ∙ ap length longer) before_is (after_is ∙ ap (all_counts j.config) longer) (lists refl))
published_as false keeper keeper' number j e r before after at enters_is proper is number_same ifaces_same at_is before_is after_is lists still =
    subst (λ (past : List Entry). IsPublished keeper' number (record { config = j.config; history = past })) (sym (after-kept e r j.history enters_is))
    (subst (λ (k : Readings). IsPublished k number j) (sym (still refl)) is)

pub published_after_call : (keeper keeper' : Readings) (number number' : ℕ) (j j' : Journal) (e : Event) (r : Reply) (before after : List ErrorCounts) (at : ℕ) → IsLongConfig j.config → IsPublished keeper number j
    → number' ≡ number → j' ≡ record j { history = history_after e r j.history }
    → keeper'.number ≡ keeper.number → keeper'.ifaces ≡ keeper.ifaces → at ≡ length j'.history
    → before ≡ all_counts j.config j.history → after ≡ all_counts j'.config j'.history
    → (enters r ≡ true → Publishes keeper before after at keeper') → (enters r ≡ false → keeper' ≡ keeper)
    → IsPublished keeper' number' j'
published_after_call keeper keeper' number number' j j' e r before after at proper is number_is journal_is number_same ifaces_same at_is before_is after_is lists still =
    subst (λ (x : ℕ × Journal). IsPublished keeper' x.0 x.1) (λ k. (sym number_is k, sym journal_is k))
    (published_as (enters r) keeper keeper' number j e r before after at refl proper is number_same ifaces_same (at_is ∙ ap (λ (x : Journal). length x.history) journal_is) before_is (after_is ∙ ap (λ (x : Journal). all_counts x.config x.history) journal_is) lists still)

-- The counters kept before an event are the counters of the history.
pub kept_before : (j : Journal) (e : Event) (told : Option (List ErrorCounts)) (before : List ErrorCounts) → told ≡ counts_before j e → told ≡ Some before → before ≡ all_counts j.config j.history
kept_before j (event.Open i n) told before is kept = absurd (cc (is, kept))
kept_before j (event.Close s) told before is kept = absurd (cc (is, kept))
kept_before j (event.SetFilters s f) told before is kept = absurd (cc (is, kept))
kept_before j (event.SetOption s o) told before is kept = absurd (cc (is, kept))
kept_before j (event.Send s f) told before is kept = absurd (cc (is, kept))
kept_before j (event.Receive s) told before is kept = absurd (cc (is, kept))
kept_before j (event.Attempt m v) told before is kept = cc (is, kept)
kept_before j (event.Restart i m) told before is kept = cc (is, kept)
kept_before j (event.Down i m) told before is kept = cc (is, kept)

-- An event for which no counters were kept does not change the counters.
unchanged : (j : Journal) (e : Event) (r : Reply) (i : ℕ) → counts_before j e ≡ None → counts_of j.config (entry_of e r ∷ j.history) i ≡ counts_of j.config j.history i
unchanged j (event.Open k n) r i none = refl
unchanged j (event.Close s) r i none = refl
unchanged j (event.SetFilters s f) r i none = refl
unchanged j (event.SetOption s o) r i none = refl
unchanged j (event.Send s f) r i none = refl
unchanged j (event.Receive s) r i none = refl
unchanged j (event.Attempt m v) r i none = absurd (cc (none))
unchanged j (event.Restart k m) r i none = absurd (cc (none))
unchanged j (event.Down k m) r i none = absurd (cc (none))

-- An event that leaves the counters the same publishes nothing.
published_same : (k : ErrorCounts) (at : ℕ) (before : List Status) → published_after k k at before ≡ before
published_same k at before = rw (both k.tec k.rec k.down) refl
  where
    both : (m n : ℕ) (b : Bool) → (m == m && (n == n && beq b b)) ≡ true
    both m n true = grind (arith, nat_tests)
    both m n false = grind (arith, nat_tests)

publishes_nothing : (b : Bool) (j : Journal) (e : Event) (r : Reply) (i : ℕ) → enters r ≡ b → counts_before j e ≡ None → publications_of j.config (history_after e r j.history) i ≡ publications_of j.config j.history i
publishes_nothing true j e r i is none =
    let past = j.history in
    let before = publications_of j.config past i in
    ap (λ (p : List Entry). publications_of j.config p i) (after-entered e r past is)
    ∙ ap (λ (k : ErrorCounts). published_after (counts_of j.config past i) k (suc (length past)) before) (unchanged j e r i none)
    ∙ published_same (counts_of j.config past i) (suc (length past)) before
publishes_nothing false j e r i is none = ap (λ (p : List Entry). publications_of j.config p i) (after-kept e r j.history is)

pub published_still : (keeper : Readings) (number number' : ℕ) (j j' : Journal) (e : Event) (r : Reply) (told : Option (List ErrorCounts)) → told ≡ counts_before j e → told ≡ None → IsPublished keeper number j
    → number' ≡ number → j' ≡ record j { history = history_after e r j.history } → IsPublished keeper number' j'
published_still keeper number number' j j' e r told told_is none is number_is journal_is =
    subst (λ (x : ℕ × Journal). IsPublished keeper x.0 x.1) (λ k. (sym number_is k, sym journal_is k))
    (record { number_is = is.number_is; ifaces_are = is.ifaces_are; each = λ i below. is.each i below ∙ sym (publishes_nothing (enters r) j e r i refl (sym told_is ∙ none)) })

-- An empty history has no publications.
pub nothing_published : (number : ℕ) (c : BusConfig) → IsPublished (readings number c.ifaces []) number (record { config = c; history = [] })
nothing_published number c = record { number_is = refl; ifaces_are = refl; each = λ i below. refl }

-- A gauge has seen only publications of the history.
pub all_true : (keeper : Readings) (number : ℕ) (j : Journal) (gauges : List Readings) → IsPublished keeper number j → AllSeen gauges keeper → AreTrue j gauges
all_true keeper number j gauges is seen =
    All-weaker (λ (g : Readings). AreEndsOf g.lists keeper.lists) (λ (g : Readings). (i : ℕ) → i < j.config.ifaces → IsSuffix (published g.lists i) (publications_of j.config j.history i))
    (λ g ends i below. subst (IsSuffix (published g.lists i)) (is.each i below) (ends i)) gauges seen

-- The length of a legal history fits in a word.
pub short : (c : BusConfig) (past : List Entry) (n : ℕ) → IsLongConfig c → IsLegal c past → n ≡ length past → n < 4294967296
short c past n proper legal is =
    let few : length past ≤ c.limit = legal-short c past legal in
    omega (arith, proper.few_entries)

-- `TakesBackScroll` follows from `TakesBack` if the scroll belongs to the station.
pub with_scroll : {A E : Type 0} (number scroll : ℕ) (passes : List PassSeen) (gauges : List Readings) (result : Result A E) → scroll ≡ number → TakesBack number passes gauges result
    → TakesBackScroll number scroll passes gauges result
with_scroll number scroll passes gauges (Ok left) own back = (own, back.0, back.1)
with_scroll number scroll passes gauges (Err refused) own back = inr back
