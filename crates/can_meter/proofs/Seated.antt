-- The proof that each call must give to the table, and the facts that the call gets, at a seat whose view is known by
-- an equation.
use Rattle.std.proofs.Common.{◌≡◌, ℕ, ◌<◌, List, [], ◌∷◌, ap, sym, ◌∙◌, subst}
use mathlib.Core.List.{IsSuffix}
use mathlib.Core.Option.{none}
use Rattle.atomic_table.specs.Table.{State, Me, Allows, Splits, Joins, step}
use Rattle.atomic_table.specs.Seated.{TableId}
use Rattle.can_meter.specs.declared.status.Status.{Status}
use Rattle.can_meter.specs.declared.rule.View.{View}
use Rattle.can_meter.specs.declared.rule.View.TheVariants.{Keeps, Watches, Spent}
use Rattle.can_meter.specs.Publications.{newest, published, with_list, longer_lists, AreEndsOf}
use Rattle.can_meter.specs.Rule.{AllEnd, Metered, LoadsPublications, ReturnsOldLists, Stores, watcher, seat_taken_in, without_old_lists, seat_lists, olds_of, IsSeated}
use Rattle.can_meter.specs.Words.{status_word, meant, Fits}
use Rattle.can_meter.proofs.Lists.{published-with_list}
use Rattle.can_meter.proofs.Steps.{reads, stores, keeper_returns, gauge_returns, copies, takes_in}

-- a seat at a table that is lent is a seat at that table
pub seated_in : {S : Type 0} (table : TableId) (key : ℕ) (seat : TableId) (me : Me S View) (meter : TableId) (v : View) (lent : TableId) (lent_key : ℕ)
    → lent ≡ table → lent_key ≡ key → IsSeated table key seat me meter v → IsSeated lent lent_key seat me meter v
seated_in table key seat me meter v lent lent_key is key_too s =
    record { table_is = is ∙ s.table_is; key_is = key_too ∙ s.key_is; seat_is = s.seat_is; not_empty = s.not_empty; me_is = s.me_is }

module _ {S : Type 0} (table : TableId) (key : ℕ) (seat : TableId) (me : Me S View) (meter : TableId) where
  abbrev Rule : State S View → Type 0
  Rule s = Metered key s.words s.views

  pub reads_at : (slots id word : ℕ) (lists : List (List Status)) → IsSeated table key seat me meter (Watches lists []) → word < meter.words
      → (seat ≡ table) × (word < table.words) × Allows Rule slots id me word (λ n. n) (LoadsPublications (step slots word 0 0 none) me)
  reads_at slots id word lists s lt = (
    s.seat_is ∙ sym s.table_is,
    subst (λ t. word < t.words) (sym s.table_is) lt,
    subst (λ (m : Me S View). Allows Rule slots id m word (λ n. n) (LoadsPublications (step slots word 0 0 none) m)) (sym s.me_is) (reads key slots id word lists (subst (λ n. word < n) (sym s.key_is) lt)),
  )

  pub stores_at : (slots id word n : ℕ) (lists : List (List Status)) (p : Status) → IsSeated table key seat me meter (Keeps lists []) → word < meter.words
      → n ≡ status_word p → Fits p → (newest (published lists word)).at < p.at
      → (seat ≡ table) × (word < table.words) × Allows Rule slots id me word (λ _. n) (λ _. Stores (step slots word n 0 none) me n)
  stores_at slots id word n lists p s lt same fits later = (
    s.seat_is ∙ sym s.table_is,
    subst (λ t. word < t.words) (sym s.table_is) lt,
    subst (λ (x : Me S View × ℕ). Allows Rule slots id x.0 word (λ _. x.1) (λ _. Stores (step slots word x.1 0 none) x.0 x.1)) (λ k. (sym s.me_is k, sym same k))
        (stores key slots id word lists p (subst (λ n. word < n) (sym s.key_is) lt) fits later),
  )

  -- a gauge's seat can be split
  pub copies_at : (id : ℕ) (lists : List (List Status)) → IsSeated table key seat me meter (Watches lists [])
      → (seat ≡ table) × (0 < table.words) × Splits Rule id me.0 me.0 (watcher me.0)
  copies_at id lists s = (
    s.seat_is ∙ sym s.table_is,
    subst (λ t. 0 < t.words) (sym s.table_is) s.not_empty,
    subst (λ (m : Me S View). Splits Rule id m.0 m.0 (watcher m.0)) (sym s.me_is) (copies key id lists),
  )

  -- a seat can take in another seat
  pub takes_in_at : (id other : ℕ) (v w : View) (table2 : TableId) (key2 : ℕ) (seat2 : TableId) (me2 : Me S View) (meter2 : TableId)
      → IsSeated table key seat me meter v → IsSeated table2 key2 seat2 me2 meter2 w → meter2 ≡ meter
      → (seat ≡ table) × (seat2 ≡ table) × (me2.1 ≡ []) × (0 < table.words) × Joins Rule id me.0 other me2.0 (seat_taken_in me.0 me2.0) Spent
  takes_in_at id other v w table2 key2 seat2 me2 meter2 s t same =
      (s.seat_is ∙ sym s.table_is, t.seat_is ∙ same ∙ sym s.table_is, ap (λ m. m.1) t.me_is, subst (λ t. 0 < t.words) (sym s.table_is) s.not_empty, takes_in key id me.0 other me2.0)

  -- the seat after it took in another seat
  pub seated_taken : (v w : View) (table2 : TableId) (key2 : ℕ) (seat2 : TableId) (me2 : Me S View) (meter2 seat3 : TableId) (me3 : Me S View)
      → IsSeated table key seat me meter v → IsSeated table2 key2 seat2 me2 meter2 w → seat3 ≡ seat → me3 ≡ (seat_taken_in me.0 me2.0, me.1)
      → IsSeated table key seat3 me3 meter (seat_taken_in v w)
  seated_taken v w table2 key2 seat2 me2 meter2 seat3 me3 s t same after =
      record { table_is = s.table_is; key_is = s.key_is; seat_is = same ∙ s.seat_is; not_empty = s.not_empty; me_is = after ∙ (λ k. (seat_taken_in (s.me_is k).0 (t.me_is k).0, (s.me_is k).1)) }

  pub keeper_returns_at : (slots id : ℕ) (lists older : List (List Status)) → IsSeated table key seat me meter (Keeps lists (older ∷ []))
      → (seat ≡ table) × (0 < table.words) × Allows Rule slots id me 0 (λ n. n) (ReturnsOldLists (step slots 0 0 0 none) me)
  keeper_returns_at slots id lists older s = (
    s.seat_is ∙ sym s.table_is,
    subst (λ t. 0 < t.words) (sym s.table_is) s.not_empty,
    subst (λ (m : Me S View). Allows Rule slots id m 0 (λ n. n) (ReturnsOldLists (step slots 0 0 0 none) m)) (sym s.me_is) (keeper_returns key slots id 0 lists older),
  )

  pub gauge_returns_at : (slots id : ℕ) (a b : List (List Status)) → IsSeated table key seat me meter (Watches (longer_lists a b) (a ∷ b ∷ []))
      → (seat ≡ table) × (0 < table.words) × Allows Rule slots id me 0 (λ n. n) (ReturnsOldLists (step slots 0 0 0 none) me)
  gauge_returns_at slots id a b s = (
    s.seat_is ∙ sym s.table_is,
    subst (λ t. 0 < t.words) (sym s.table_is) s.not_empty,
    subst (λ (m : Me S View). Allows Rule slots id m 0 (λ n. n) (ReturnsOldLists (step slots 0 0 0 none) m)) (sym s.me_is) (gauge_returns key slots id 0 a b),
  )

-- The publications that a load found. The number of slots may be any number.
module _ {S : Type 0} (word found : ℕ) (me after : Me S View) where
  pub shows_newest : LoadsPublications (step 0 word 0 0 none) me found after → meant found ≡ newest (published (seat_lists after.0) word)
  shows_newest r = r.5 ∙ sym (ap (λ v. newest (published (seat_lists v) word)) r.1 ∙ ap newest (published-with_list (seat_lists me.0) word r.0))

  pub shows_more : LoadsPublications (step 0 word 0 0 none) me found after → IsSuffix (published (seat_lists me.0) word) (published (seat_lists after.0) word)
  shows_more r = subst (IsSuffix (published (seat_lists me.0) word)) (sym (ap (λ v. published (seat_lists v) word) r.1 ∙ published-with_list (seat_lists me.0) word r.0)) r.3

  pub shows_one : LoadsPublications (step 0 word 0 0 none) me found after → seat_lists after.0 ≡ with_list (seat_lists me.0) word (published (seat_lists after.0) word)
  shows_one r =
      ap seat_lists r.1 ∙ ap (with_list (seat_lists me.0) word) (sym (ap (λ v. published (seat_lists v) word) r.1 ∙ published-with_list (seat_lists me.0) word r.0))

-- after a keeper took in a gauge, the gauge's lists are ends of the keeper's lists
pub keeper_learns : {S : Type 0} (me other taken : Me S View) (mine theirs : List (List Status)) → me ≡ (Keeps mine [], []) → other ≡ (Watches theirs [], [])
    → taken ≡ (seat_taken_in me.0 other.0, me.1) → AllEnd (olds_of taken.0) (seat_lists taken.0) → AreEndsOf theirs mine
keeper_learns {S} me other taken mine theirs is other_is taken_is all =
    let whole : taken ≡ (Keeps mine (theirs ∷ []), []) = taken_is ∙ (λ k. (seat_taken_in (is k).0 (other_is k).0, (is k).1)) in
    (subst (λ (m : Me S View). AllEnd (olds_of m.0) (seat_lists m.0)) whole all).0

-- after a gauge took in another gauge, the lists of both are ends of its new lists
pub gauge_learns : {S : Type 0} (me other taken after : Me S View) (mine theirs : List (List Status)) → me ≡ (Watches mine [], []) → other ≡ (Watches theirs [], [])
    → taken ≡ (seat_taken_in me.0 other.0, me.1) → after.0 ≡ without_old_lists taken.0 → AllEnd (olds_of taken.0) (seat_lists taken.0)
    → AreEndsOf mine (seat_lists after.0) × AreEndsOf theirs (seat_lists after.0)
gauge_learns {S} me other taken after mine theirs is other_is taken_is returned_is all =
    let whole : taken ≡ (Watches (longer_lists mine theirs) (mine ∷ theirs ∷ []), []) = taken_is ∙ (λ k. (seat_taken_in (is k).0 (other_is k).0, (is k).1)) in
    let knows : longer_lists mine theirs ≡ seat_lists after.0 = sym (ap seat_lists returned_is ∙ ap (λ m. seat_lists (without_old_lists m.0)) whole) in
    let ends = subst (λ (m : Me S View). AllEnd (olds_of m.0) (seat_lists m.0)) whole all in
    (subst (AreEndsOf mine) knows ends.0, subst (AreEndsOf theirs) knows ends.1.0)
